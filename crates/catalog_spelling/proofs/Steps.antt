-- Fields one behind the other: how what is read of each makes what is read of all.
use Rattle.std.proofs.Common.{◌≡◌, ℕ, Bool, true, false, cond, List, [], ◌++◌, length, Ok, Err, refl, sym, ap, subst, ◌∙◌, append_assoc}
use Rattle.save_stream.specs.Standing.{AreBytes}
use Rattle.catalog_spelling.specs.Reading.{Part, ◌>>=◌, checked}
use Rattle.catalog_spelling.specs.Spelled.{Took, Judged, Reads}

-- Behind a front reading goes on so, whatever follows.
pub record Goes {Y : Type 0} (top : List ℕ → Part Y) (front : List ℕ) (on : List ℕ → Part Y) : Type 0 where
  pub goes : (more : List ℕ) → top (front ++ more) ≡ on more

pub start : {Y : Type 0} (top : List ℕ → Part Y) → Goes top [] top
start top = record { goes = λ more. refl }

-- one more field is read
pub after : {X Y : Type 0} {at : List ℕ → Part X} {text : X → List ℕ} {Is : X → Type 0} (reads : Reads at text Is) {top : List ℕ → Part Y} {front : List ℕ} (next : X × List ℕ → Part Y) (x : X) → Is x
    → Goes top front (λ more. at more >>= next) → Goes top (front ++ text x) (λ more. next (x, more))
after {X = X} {text = text} reads {top = top} {front = front} next x is goes =
    record { goes = λ more. ap top (append_assoc front (text x) more) ∙ goes.goes (text x ++ more) ∙ ap (λ (part : Part X). part >>= next) (reads.again x more is) }

-- the last field is read
pub end-again : {X : Type 0} {at : List ℕ → Part X} {text : X → List ℕ} {Is : X → Type 0} (reads : Reads at text Is) {top : List ℕ → Part X} {front : List ℕ} (x : X) → Is x
    → Goes top front at → Goes top (front ++ text x) (λ more. Ok (x, more))
end-again {text = text} reads {top = top} {front = front} x is goes =
    record { goes = λ more. ap top (append_assoc front (text x) more) ∙ goes.goes (text x ++ more) ∙ reads.again x more is }

-- A front of all bytes is read, and reading goes on behind it.
pub record Stands {Y : Type 0} (top : List ℕ → Part Y) (all front bytes : List ℕ) (on : List ℕ → Part Y) : Type 0 where
  pub parts : all ≡ front ++ bytes
  pub fits : AreBytes bytes
  pub goes : Goes top front on

pub begin : {Y : Type 0} (top : List ℕ → Part Y) (bytes : List ℕ) → AreBytes bytes → Stands top bytes [] bytes top
begin top bytes fits = record { parts = refl; fits = fits; goes = start top }

-- what is read in the end is taken
pub took : {Y : Type 0} {top : List ℕ → Part Y} {all front rest : List ℕ} (on : List ℕ → Part Y) → Stands top all front rest on → Took all front rest
took on stands = record { parts = stands.parts; fits = stands.fits }

-- what a step that went well is taken to, and one that stopped
then-part : {X Y : Type 0} (at : List ℕ → Part X) (text : X → List ℕ) (Is : X → Type 0) (reads : Reads at text Is) (top : List ℕ → Part Y) (all front bytes : List ℕ) (next : X × List ℕ → Part Y) (Q : Y → List ℕ → Type 0)
    (part : Part X) → Judged at bytes part (λ x rest. Took bytes (text x) rest × Is x) → Stands top all front bytes (λ more. at more >>= next)
    → ((x : X) (rest : List ℕ) → Is x → Stands top all (front ++ text x) rest (λ more. next (x, more)) → Judged top all (next (x, rest)) Q)
    → Judged top all (part >>= next) Q
then-part at text Is reads top all front bytes next Q (Ok x) found stands more =
    more x.0 x.1 found.1 (record {
      parts = stands.parts ∙ ap (λ (t : List ℕ). front ++ t) found.0.parts ∙ sym (append_assoc front (text x.0) x.1);
      fits = found.0.fits;
      goes = after reads next x.0 found.1 stands.goes;
    })
then-part {X = X} at text Is reads top all front bytes next Q (Err behind) found stands more = record {
  before = front ++ found.before;
  bad = found.bad;
  parts = stands.parts ∙ ap (λ (t : List ℕ). front ++ t) found.parts ∙ sym (append_assoc front found.before found.bad);
  size = found.size;
  whole = stands.goes.goes found.before ∙ ap (λ (part : Part X). part >>= next) found.whole;
}

pub then-found : {X Y : Type 0} {at : List ℕ → Part X} {text : X → List ℕ} {Is : X → Type 0} (reads : Reads at text Is) {top : List ℕ → Part Y} {all front bytes : List ℕ} (next : X × List ℕ → Part Y) (Q : Y → List ℕ → Type 0)
    → Stands top all front bytes (λ more. at more >>= next)
    → ((x : X) (rest : List ℕ) → Is x → Stands top all (front ++ text x) rest (λ more. next (x, more)) → Judged top all (next (x, rest)) Q)
    → Judged top all (at bytes >>= next) Q
then-found {at = at} {text = text} {Is = Is} reads {top = top} {all = all} {front = front} {bytes = bytes} next Q stands more =
    then-part at text Is reads top all front bytes next Q (at bytes) (reads.found bytes stands.fits) stands more

-- the last field
end-part : {X : Type 0} (at : List ℕ → Part X) (text : X → List ℕ) (Is : X → Type 0) (top : List ℕ → Part X) (all front bytes : List ℕ) (Q : X → List ℕ → Type 0)
    (part : Part X) → Judged at bytes part (λ x rest. Took bytes (text x) rest × Is x) → Stands top all front bytes at
    → ((x : X) (rest : List ℕ) → Is x → Took all (front ++ text x) rest → Q x rest)
    → Judged top all part Q
end-part at text Is top all front bytes Q (Ok x) found stands more =
    more x.0 x.1 found.1 (record {
      parts = stands.parts ∙ ap (λ (t : List ℕ). front ++ t) found.0.parts ∙ sym (append_assoc front (text x.0) x.1);
      fits = found.0.fits;
    })
end-part at text Is top all front bytes Q (Err behind) found stands more = record {
  before = front ++ found.before;
  bad = found.bad;
  parts = stands.parts ∙ ap (λ (t : List ℕ). front ++ t) found.parts ∙ sym (append_assoc front found.before found.bad);
  size = found.size;
  whole = stands.goes.goes found.before ∙ found.whole;
}

pub end-found : {X : Type 0} {at : List ℕ → Part X} {text : X → List ℕ} {Is : X → Type 0} (reads : Reads at text Is) {top : List ℕ → Part X} {all front bytes : List ℕ} (Q : X → List ℕ → Type 0)
    → Stands top all front bytes at
    → ((x : X) (rest : List ℕ) → Is x → Took all (front ++ text x) rest → Q x rest)
    → Judged top all (at bytes) Q
end-found {at = at} {text = text} {Is = Is} reads {top = top} {all = all} {front = front} {bytes = bytes} Q stands more =
    end-part at text Is top all front bytes Q (at bytes) (reads.found bytes stands.fits) stands more

-- ---- a field that is judged

judged-by : {X : Type 0} (at : List ℕ → Part X) (text : X → List ℕ) (Is : X → Type 0) (allows : X → Bool) (test : Bool) (bytes : List ℕ) (x : X) (rest : List ℕ) → allows x ≡ test → at [] ≡ Err 0
    → Took bytes (text x) rest × Is x
    → Judged (λ bytes. checked allows bytes (at bytes)) bytes (cond test (Ok (x, rest)) (Err (length bytes))) (λ x rest. Took bytes (text x) rest × (Is x × (allows x ≡ true)))
judged-by at text Is allows true bytes x rest is none found = (found.0, (found.1, is))
judged-by {X = X} at text Is allows false bytes x rest is none found =
    record { before = []; bad = bytes; parts = refl; size = refl; whole = ap (λ (part : Part X). checked allows [] part) none }

judged-part : {X : Type 0} (at : List ℕ → Part X) (text : X → List ℕ) (Is : X → Type 0) (allows : X → Bool) (bytes : List ℕ) (part : Part X) → at [] ≡ Err 0
    → Judged at bytes part (λ x rest. Took bytes (text x) rest × Is x)
    → Judged (λ bytes. checked allows bytes (at bytes)) bytes (checked allows bytes part) (λ x rest. Took bytes (text x) rest × (Is x × (allows x ≡ true)))
judged-part at text Is allows bytes (Ok x) none found = judged-by at text Is allows (allows x.0) bytes x.0 x.1 refl none found
judged-part {X = X} at text Is allows bytes (Err behind) none found =
    record { before = found.before; bad = found.bad; parts = found.parts; size = found.size; whole = ap (λ (part : Part X). checked allows found.before part) found.whole }

pub checked-reads : {X : Type 0} {at : List ℕ → Part X} {text : X → List ℕ} {Is : X → Type 0} (reads : Reads at text Is) (allows : X → Bool) → at [] ≡ Err 0
    → Reads (λ bytes. checked allows bytes (at bytes)) text (λ x. Is x × (allows x ≡ true))
checked-reads {X = X} {at = at} {text = text} {Is = Is} reads allows none = record {
  found = λ bytes fits. judged-part at text Is allows bytes (at bytes) none (reads.found bytes fits);
  again = λ x rest is.
      ap (λ (part : Part X). checked allows (text x ++ rest) part) (reads.again x rest is.0)
      ∙ ap (λ (test : Bool). cond test (Ok (x, rest)) (Err (length (text x ++ rest)))) is.1;
}

-- the same under a condition that says no less, and no more
pub judged-as : {X Y : Type 0} (at : List ℕ → Part X) (bytes : List ℕ) (part : Part Y) (P Q : Y → List ℕ → Type 0) → Judged at bytes part P → ((y : Y) (rest : List ℕ) → P y rest → Q y rest)
    → Judged at bytes part Q
judged-as at bytes (Ok y) P Q is weaker = weaker y.0 y.1 is
judged-as at bytes (Err behind) P Q is weaker = is

pub reads-as : {X : Type 0} {at : List ℕ → Part X} {text : X → List ℕ} {Is : X → Type 0} (reads : Reads at text Is) (Has : X → Type 0) → ((x : X) → Is x → Has x) → ((x : X) → Has x → Is x)
    → Reads at text Has
reads-as {at = at} {text = text} {Is = Is} reads Has there back = record {
  found = λ bytes fits. judged-as at bytes (at bytes) (λ x rest. Took bytes (text x) rest × Is x) (λ x rest. Took bytes (text x) rest × Has x) (reads.found bytes fits) (λ x rest is. (is.0, there x is.1));
  again = λ x rest is. reads.again x rest (back x is);
}

-- the same under another word for the spelling
pub texts-same : {X : Type 0} {at : List ℕ → Part X} {text other : X → List ℕ} {Is : X → Type 0} (reads : Reads at text Is) → ((x : X) → other x ≡ text x) → Reads at other Is
texts-same {X = X} {at = at} {text = text} {other = other} {Is = Is} reads same = record {
  found = λ bytes fits. judged-as at bytes (at bytes) (λ x rest. Took bytes (text x) rest × Is x) (λ x rest. Took bytes (other x) rest × Is x) (reads.found bytes fits)
      (λ x rest is. (subst (λ (t : List ℕ). Took bytes t rest) (sym (same x)) is.0, is.1));
  again = λ x rest is. ap (λ (t : List ℕ). at (t ++ rest)) (same x) ∙ reads.again x rest is;
}
