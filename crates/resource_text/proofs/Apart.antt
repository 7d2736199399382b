-- The resources that a text gives are allowed, and no two have one kind and name.
use Rattle.std.proofs.Common.{◌≡◌, ◌≢◌, ℕ, List, [], ◌∷◌, ◌++◌, Option, Some, None, Result, Ok, Err, Vec, Global, refl, sym, subst, ◌∙◌, inl, inr, true}
use Rattle.std.specs.Prelude.{IfOk}
use Rattle.std.specs.List.{AllByRecursion}
use Rattle.std.specs.Cmp.Lexicographic.{slice_cmp}
use Rattle.std.specs.Ordering.{nat_cmp}
use Rattle.std.specs.declared.cmp.Ordering.{Ordering}
use Rattle.std.specs.declared.cmp.Ordering.TheVariants.{Less, Equal}
use Rattle.std.proofs.lemmas.Cmp.{nat_list_cmp_total, tied_itself}
use Rattle.std.proofs.lemmas.List.{append-nil, append_assoc}
use Rattle.toml.specs.Data.{Data, Members, no_members, member, get_member, is_before}
use Rattle.room_base.proofs.OrderedLaws.{each_weaker}
use Rattle.catalog_change.specs.declared.resource.Resource.{Resource}
use Rattle.catalog_change.specs.declared.resource.ResourceKind.{ResourceKind}
use Rattle.catalog_change.specs.Resources.{IsResource, kind_of, name_of}
use Rattle.resource_lists.specs.Adding.{AreDistinct, IsNamed}
use Rattle.resource_text.specs.Reading.{KeysAscend}
use Rattle.resource_text.specs.Resources.{IsDocument, ReadsAll, all_kinds, document_gives, each_gives, kind_gives, kind_key, kinds_give, text_gives}
use Rattle.resource_text.specs.declared.fault.TextFault.{TextFault}
use Rattle.resource_text.proofs.Allowed.{Given, is_less, not_both, resource_given, same_ok}

-- ---- lists

each_joined : {X : Type 0} (P : X → Type 0) (xs ys : List X) → AllByRecursion P xs → AllByRecursion P ys → AllByRecursion P (xs ++ ys)
each_joined P [] ys one two = two
each_joined P (x ∷ xs) ys one two = (one.0, each_joined P xs ys one.1 two)

-- no two of these have one kind and name, and their kinds aren't those of the others
distinct_joined : (xs ys : List Resource) → AreDistinct xs → AreDistinct ys
    → AllByRecursion (λ one. AllByRecursion (λ other. kind_of other ≢ kind_of one) ys) xs → AreDistinct (xs ++ ys)
distinct_joined [] ys one two apart = two
distinct_joined (x ∷ xs) ys one two apart = (
  each_joined (λ other. ¬ IsNamed (kind_of x) (name_of x) other) xs ys one.0
      (each_weaker (λ other. kind_of other ≢ kind_of x) (λ other. ¬ IsNamed (kind_of x) (name_of x) other) (λ other differs named. differs named.0) ys apart.0),
  distinct_joined xs ys one.1 two apart.1,
)

-- ---- the resources of one kind

-- resources of these names
abbrev Named : ResourceKind → Members → List Resource → Type 0
Named kind no_members all = all ≡ []
Named kind (member name value entries) all =
    (one : Resource) × (others : List Resource) × Given kind name one × Named kind entries others × (all ≡ one ∷ others)

each_given : (kind : ResourceKind) (entries : Members) (done all : List Resource) → each_gives kind entries done (Ok all)
    → (more : List Resource) × (all ≡ done ++ more) × Named kind entries more
each_given kind no_members done all is = ([], same_ok all done is ∙ sym (append-nil done), refl)
each_given kind (member name value entries) done all (inl (one, gives, rest)) =
    let (more, same, named) = each_given kind entries (done ++ one ∷ []) all rest in
    (one ∷ more, same ∙ append_assoc done (one ∷ []) more, (one, more, resource_given kind name value one gives, named, refl))
each_given kind (member name value entries) done all (inr (field, gives, is)) = not_both all field is

-- the kind of these, and names above this one
abbrev Above : ResourceKind → List ℕ → Resource → Type 0
Above kind low one = (kind_of one ≡ kind) × (slice_cmp nat_cmp low (name_of one) ≡ Less)

record Kind (kind : ResourceKind) (all : List Resource) : Type 0 where
  pub allowed : AllByRecursion IsResource all
  pub kinds_are : AllByRecursion (λ one. kind_of one ≡ kind) all
  pub distinct : AreDistinct all

module _ (kind : ResourceKind) where
  above : (low : List ℕ) (entries : Members) (all : List Resource) → is_before low entries ≡ true → KeysAscend entries → Named kind entries all → AllByRecursion (Above kind low) all
  above low no_members all before ascend is = subst (AllByRecursion (Above kind low)) (sym is) tt
  above low (member name value entries) all before ascend (one, others, given, named, same) =
      let less : slice_cmp nat_cmp low name ≡ Less = is_less (slice_cmp nat_cmp low name) before in
      let G : List ℕ → Type 0 = λ text. slice_cmp nat_cmp low text ≡ Less in
      subst (AllByRecursion (Above kind low)) (sym same) (
        (given.kind_is, subst G (sym given.name_is) less),
        each_weaker (Above kind name) (Above kind low) (λ other is. (is.0, nat_list_cmp_total.trans low name (name_of other) less is.1)) others
            (above name entries others ascend.0 ascend.1 named),
      )

  differs : (name : List ℕ) (one other : Resource) → Given kind name one → Above kind name other → ¬ IsNamed (kind_of one) (name_of one) other
  differs name one other given is named =
      let G : List ℕ → Type 0 = λ text. slice_cmp nat_cmp name text ≡ Less in
      let less : slice_cmp nat_cmp name name ≡ Less = subst G (named.1 ∙ given.name_is) is.1 in
      let no : ◌≡◌ {A = Ordering} Equal Less = sym (tied_itself nat_list_cmp_total name) ∙ less in
      absurd cc

  named_are : (entries : Members) (all : List Resource) → KeysAscend entries → Named kind entries all → Kind kind all
  named_are no_members all ascend is = subst (Kind kind) (sym is) (record { allowed = tt; kinds_are = tt; distinct = tt })
  named_are (member name value entries) all ascend (one, others, given, named, same) =
      let rest = named_are entries others ascend.1 named in
      subst (Kind kind) (sym same) (record {
        allowed = (given.allowed, rest.allowed);
        kinds_are = (given.kind_is, rest.kinds_are);
        distinct = (
          each_weaker (Above kind name) (λ other. ¬ IsNamed (kind_of one) (name_of one) other) (λ other is. differs name one other given is) others (above name entries others ascend.0 ascend.1 named),
          rest.distinct,
        );
      })

  -- those of one kind behind those that were read before
  kind_given : (found : Option Data) (done all : List Resource) → kind_gives kind found done (Ok all) → (more : List Resource) × (all ≡ done ++ more) × Kind kind more
  kind_given None done all is = ([], same_ok all done is ∙ sym (append-nil done), record { allowed = tt; kinds_are = tt; distinct = tt })
  kind_given (Some value) done all (inl (entries, (table, ascend), gives)) =
      let (more, same, named) = each_given kind entries done all gives in
      (more, same, named_are entries more ascend named)
  kind_given (Some value) done all (inr (none, is)) = not_both all _ is

-- ---- all kinds

-- what was read is allowed, and has none of the kinds that are left
record Read (rest : List ResourceKind) (done : List Resource) : Type 0 where
  pub allowed : AllByRecursion IsResource done
  pub distinct : AreDistinct done
  pub apart : AllByRecursion (λ one. AllByRecursion (λ kind. kind_of one ≢ kind) rest) done

abbrev AreApart : List ResourceKind → Type 0
AreApart [] = Unit {0}
AreApart (kind ∷ rest) = AllByRecursion (λ other. kind ≢ other) rest × AreApart rest

other_kinds : (kind : ResourceKind) (more : List Resource) (one : Resource) → kind_of one ≢ kind → AllByRecursion (λ other. kind_of other ≡ kind) more → AllByRecursion (λ other. kind_of other ≢ kind_of one) more
other_kinds kind more one differs are = each_weaker (λ other. kind_of other ≡ kind) (λ other. kind_of other ≢ kind_of one) (λ other is same. differs (sym same ∙ is)) more are

read_more : (kind : ResourceKind) (rest : List ResourceKind) (done more : List Resource) → AllByRecursion (λ other. kind ≢ other) rest → Read (kind ∷ rest) done → Kind kind more → Read rest (done ++ more)
read_more kind rest done more apart read are = record {
  allowed = each_joined IsResource done more read.allowed are.allowed;
  distinct = distinct_joined done more read.distinct are.distinct
      (each_weaker (λ one. AllByRecursion (λ other. kind_of one ≢ other) (kind ∷ rest)) (λ one. AllByRecursion (λ other. kind_of other ≢ kind_of one) more)
      (λ one differs. other_kinds kind more one differs.0 are.kinds_are) done read.apart);
  apart = each_joined (λ one. AllByRecursion (λ other. kind_of one ≢ other) rest) done more
      (each_weaker (λ one. AllByRecursion (λ other. kind_of one ≢ other) (kind ∷ rest)) (λ one. AllByRecursion (λ other. kind_of one ≢ other) rest) (λ one differs. differs.1) done read.apart)
      (each_weaker (λ one. kind_of one ≡ kind) (λ one. AllByRecursion (λ other. kind_of one ≢ other) rest)
      (λ one is. each_weaker (λ other. kind ≢ other) (λ other. kind_of one ≢ other) (λ other differs same. differs (sym is ∙ same)) rest apart) more are.kinds_are);
}

kinds_read : (rest : List ResourceKind) (entries : Members) (done all : List Resource) → AreApart rest → Read rest done → kinds_give rest entries done (Ok all) → Read [] all
kinds_read [] entries done all apart read is = subst (Read []) (sym (same_ok all done is)) read
kinds_read (kind ∷ rest) entries done all apart read (inl (now, gives, then)) =
    let (more, same, are) = kind_given kind (get_member (kind_key kind) entries) done now gives in
    kinds_read rest entries now all apart.1 (subst (Read rest) (sym same) (read_more kind rest done more apart.0 read are)) then
kinds_read (kind ∷ rest) entries done all apart read (inr (field, gives, is)) = not_both all field is

kinds_apart : AreApart all_kinds
kinds_apart = (
  ((λ is. absurd cc), ((λ is. absurd cc), ((λ is. absurd cc), ((λ is. absurd cc), tt)))),
  (((λ is. absurd cc), ((λ is. absurd cc), ((λ is. absurd cc), tt))), (((λ is. absurd cc), ((λ is. absurd cc), tt)), (((λ is. absurd cc), tt), (tt, tt)))),
)

text_read : (text : List ℕ) (all : List Resource) → text_gives text (Ok all) → Read [] all
text_read text all (inl (entries, document, inl (known, gives))) =
    kinds_read all_kinds entries [] all kinds_apart (record { allowed = tt; distinct = tt; apart = tt }) gives
text_read text all (inl (entries, document, inr (key, name, found, called, is))) = not_both all name is
text_read text all (inr (none, is)) = not_both all _ is

-- ---- what a call answers that reads a text

pub texts_are_allowed : (text : List ℕ) (entries : Members) (result : Result (Vec Resource Global) TextFault) → IsDocument text entries → ReadsAll (document_gives entries) result
    → IfOk result (λ all. AllByRecursion IsResource all.items)
texts_are_allowed text entries (Ok all) is gives = (text_read text all.items (inl (entries, is, gives))).allowed
texts_are_allowed text entries (Err fault) is gives = tt

pub texts_are_distinct : (text : List ℕ) (entries : Members) (result : Result (Vec Resource Global) TextFault) → IsDocument text entries → ReadsAll (document_gives entries) result
    → IfOk result (λ all. AreDistinct all.items)
texts_are_distinct text entries (Ok all) is gives = (text_read text all.items (inl (entries, is, gives))).distinct
texts_are_distinct text entries (Err fault) is gives = tt
