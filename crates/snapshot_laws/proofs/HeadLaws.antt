-- Heads of streams whose ssids are judged: what is read is spelled so and allowed, and what is
-- allowed is read.
use Rattle.std.proofs.Common.{Bool, ◌≡◌, ℕ, ◌<◌, ◌^◌, true, cond, eqb, nat_lt, List, ◌∷◌, ◌++◌, length, Ok, Err, refl, sym, ap, subst, ◌∙◌, eq-eqb, arith}
use Rattle.std.proofs.lemmas.Bool.{eqb-true, lt-ltb, ltb-true}
use Rattle.room_base.specs.Numbers.{max_moment}
use Rattle.save_stream.specs.Reading.{is_level}
use Rattle.save_stream.specs.Spelling.{IsHead, head_text, number_text, short_text}
use Rattle.save_stream.specs.declared.head.SetHead.{SetHead}
use Rattle.save_stream.proofs.Again.{is_level-again}
use Rattle.save_stream.proofs.Sound.{is_level-is}
use Rattle.catalog_spelling.specs.Reading.{Part, checked}
use Rattle.catalog_spelling.specs.Spelled.{Took, Reads}
use Rattle.catalog_spelling.specs.Fields.{byte_text, byte_at, number_bytes, number_at}
use Rattle.catalog_spelling.specs.SnapshotHeads.{head_if_at}
use Rattle.catalog_spelling.proofs.Steps.{start, begin, took, after, then-found, judged-as, checked-reads, texts-same}
use Rattle.catalog_spelling.proofs.Fields.{byte-reads, u64-reads, u64-within, number-empty, moment-reads, name-reads, text-reads}

-- a byte that can be one alone
pub given_byte-reads : (given : ℕ) → Reads (λ bytes. checked (λ byte. eqb byte given) bytes (byte_at bytes)) (λ byte. byte_text given) (λ byte. byte ≡ given)
given_byte-reads given =
    let at : List ℕ → Part ℕ = λ bytes. checked (λ byte. eqb byte given) bytes (byte_at bytes) in
    let reads = checked-reads byte-reads (λ byte. eqb byte given) refl in
    record {
      found = λ bytes fits.
          judged-as at bytes (at bytes) (λ byte rest. Took bytes (byte_text byte) rest × ((byte < 256) × (eqb byte given ≡ true))) (λ byte rest. Took bytes (byte_text given) rest × (byte ≡ given)) (reads.found bytes fits)
          (λ byte rest is. let same = eqb-true byte given is.1.1 in (subst (λ (k : ℕ). Took bytes (byte_text k) rest) same is.0, same));
      again = λ byte rest is.
          ap (λ (test : Bool). cond test (Ok (given, rest)) (Err (length (given ∷ rest)))) (eq-eqb given given refl) ∙ ap (λ (k : ℕ). Ok (k, rest)) (sym is);
    }

base-reads : (ssid : ℕ) → Reads (λ bytes. checked (λ base. nat_lt base ssid) bytes (number_at 8 bytes)) (number_bytes 8) (λ base. (base < 2 ^ 64) × (nat_lt base ssid ≡ true))
base-reads ssid = checked-reads u64-reads (λ base. nat_lt base ssid) (number-empty 8 (omega arith))

level-reads : (base : ℕ) → Reads (λ bytes. checked (is_level base) bytes (byte_at bytes)) byte_text (λ level. (level < 256) × (is_level base level ≡ true))
level-reads base = checked-reads byte-reads (is_level base) refl

-- how a head is spelled by the words of fields
abbrev head_bytes : SetHead → List ℕ
head_bytes head =
    byte_text 0x48 ++ number_bytes 8 head.ssid.0 ++ number_bytes 8 head.base.0 ++ byte_text head.level ++ number_bytes 8 head.saved.0 ++ number_bytes 8 head.browse.0 ++ number_bytes 8 head.retain.0
    ++ short_text head.client ++ short_text head.set ++ short_text head.group ++ short_text head.pool

same-text : (head : SetHead) → head_text head ≡ head_bytes head
unfolding number_text number_bytes
same-text head = refl

abbrev pub IsHeadIf : (ℕ → Bool) → SetHead → Type 0
IsHeadIf allows head = IsHead head × (allows head.ssid.0 ≡ true)

ssid-reads : (allows : ℕ → Bool) → Reads (λ bytes. checked allows bytes (number_at 8 bytes)) (number_bytes 8) (λ ssid. (ssid < 2 ^ 64) × (allows ssid ≡ true))
ssid-reads allows = checked-reads u64-reads allows (number-empty 8 (omega arith))

bytes-read : (allows : ℕ → Bool) → Reads (head_if_at allows) head_bytes (IsHeadIf allows)
unfolding head_if_at
bytes-read allows = record {
  found = λ bytes are.
      then-found (given_byte-reads 0x48) _ _ (begin (head_if_at allows) bytes are) (λ kind rest kind-is goes.
      then-found (ssid-reads allows) _ _ goes (λ ssid rest ssid-is goes.
      then-found (base-reads ssid) _ _ goes (λ base rest base-is goes.
      then-found (level-reads base) _ _ goes (λ level rest level-is goes.
      then-found moment-reads _ _ goes (λ saved rest saved-is goes.
      then-found moment-reads _ _ goes (λ browse rest browse-is goes.
      then-found (u64-within browse max_moment (omega arith)) _ _ goes (λ retain rest retain-is goes.
      then-found (name-reads 64 (omega arith)) _ _ goes (λ client rest client-is goes.
      then-found (name-reads 255 (omega arith)) _ _ goes (λ set rest set-is goes.
      then-found (text-reads 0 64 (omega arith)) _ _ goes (λ group rest group-is goes.
      then-found (name-reads 64 (omega arith)) _ _ goes (λ pool rest pool-is goes.
      let levels = is_level-is base level level-is.1 in
      let below = ltb-true base ssid base-is.1 in (
        took _ goes,
        (
          record {
            ssid = (omega (arith, below), ssid-is.0);
            base = ltb-true base ssid base-is.1;
            level = levels.0;
            full = levels.1;
            saved = saved-is;
            browse = browse-is;
            retain = retain-is;
            client = client-is;
            set = set-is;
            group = (group-is.0.1, group-is.1);
            pool = pool-is;
          },
          ssid-is.1,
        ),
      ))))))))))));
  again = λ head rest both.
      let is = both.0 in
      (after (name-reads 64 (omega arith)) _ head.pool is.pool
      (after (text-reads 0 64 (omega arith)) _ head.group ((omega arith, is.group.0), is.group.1)
      (after (name-reads 255 (omega arith)) _ head.set is.set
      (after (name-reads 64 (omega arith)) _ head.client is.client
      (after (u64-within head.browse.0 max_moment (omega arith)) _ head.retain.0 is.retain
      (after moment-reads _ head.browse.0 is.browse
      (after moment-reads _ head.saved.0 is.saved
      (after (level-reads head.base.0) _ head.level (omega (arith, is.level), is_level-again head.base.0 head.level is.level is.full)
      (after (base-reads head.ssid.0) _ head.base.0 (omega (arith, is.base, is.ssid.1), lt-ltb head.base.0 head.ssid.0 is.base)
      (after (ssid-reads allows) _ head.ssid.0 (is.ssid.1, both.1)
      (after (given_byte-reads 0x48) _ 0x48 refl (start (head_if_at allows))))))))))))).goes rest;
}

pub head_if-reads : (allows : ℕ → Bool) → Reads (head_if_at allows) head_text (IsHeadIf allows)
head_if-reads allows = texts-same (bytes-read allows) same-text
