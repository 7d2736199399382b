-- One resource behind others: what is read is spelled so and allowed, and what is allowed is read.
use Rattle.std.proofs.Common.{◌≡◌, ℕ, Bool, true, false, cond, eqb, List, [], ◌∷◌, ◌++◌, length, Ok, Err, refl, ap, subst, ◌∙◌}
use Rattle.save_stream.specs.Standing.{AreBytes}
use Rattle.catalog_change.specs.declared.resource.Resource.{Resource}
use Rattle.catalog_change.specs.declared.resource.Resource.TheVariants as resources
use Rattle.catalog_change.specs.Resources.{kind_of}
use Rattle.catalog_spelling.specs.Reading.{Part, ◌>>=◌, checked}
use Rattle.catalog_spelling.specs.Spelled.{Took, Judged, Reads}
use Rattle.catalog_spelling.specs.Fields.{byte_at}
use Rattle.catalog_spelling.specs.Kinds.{Readers, chosen, by_kind_at}
use Rattle.catalog_spelling.specs.Resources.{resource_byte, resource_text, fields_text}
use Rattle.catalog_spelling.proofs.Steps.{begin, took, then-found}
use Rattle.catalog_spelling.proofs.KindLaws.{Finds, by_kind-reads}
use Rattle.catalog_spelling.specs.declared.snapshot_fields.ResourceLists.{ResourceLists}
use Rattle.catalog_spelling.specs.SnapshotResources.{policy_at, pool_at, client_at, schedule_at, group_at, with_policy_at, with_pool_at, with_client_at, with_schedule_at, with_group_at, lists_readers, can_follow, next_at}
use Rattle.snapshot_laws.proofs.ResourceLaws.{IsPolicyIf, policy-reads, IsPoolIf, pool-reads, IsClientIf, client-reads, IsScheduleIf, schedule-reads, IsGroupIf, group-reads}

-- the resources with one more behind those of its kind
abbrev pub with_resource : ResourceLists → Resource → ResourceLists
with_resource lists (resources.Policy policy) = record lists { policies = lists.policies ++ policy ∷ [] }
with_resource lists (resources.Pool pool) = record lists { pools = lists.pools ++ pool ∷ [] }
with_resource lists (resources.Client client) = record lists { clients = lists.clients ++ client ∷ [] }
with_resource lists (resources.Schedule schedule) = record lists { schedules = lists.schedules ++ schedule ∷ [] }
with_resource lists (resources.Group group) = record lists { groups = lists.groups ++ group ∷ [] }

-- a resource that may stand behind those of its kind
abbrev pub IsResourceIf : ResourceLists → Resource → Type 0
IsResourceIf lists (resources.Policy policy) = IsPolicyIf lists.policies policy
IsResourceIf lists (resources.Pool pool) = IsPoolIf lists.pools pool
IsResourceIf lists (resources.Client client) = IsClientIf lists.policies lists.clients client
IsResourceIf lists (resources.Schedule schedule) = IsScheduleIf lists.schedules schedule
IsResourceIf lists (resources.Group group) = IsGroupIf lists.schedules lists.clients lists.groups group

abbrev pub byte_of : Resource → ℕ
byte_of resource = resource_byte (kind_of resource)

-- a resource that may stand behind all of these
abbrev pub IsNextResource : ResourceLists → Resource → Type 0
IsNextResource lists resource = IsResourceIf lists resource × (can_follow lists (byte_of resource) ≡ true)

-- ---- by the kinds

-- what is read, as a resource
abbrev made : {X : Type 0} → (X → Resource) → Part X → Part Resource
made make part = part >>= λ x. Ok (make x.0, x.1)

abbrev resource_readers : ResourceLists → Readers Resource
resource_readers lists =
    (0x50, λ bytes. made (λ x. resources.Policy x) (policy_at lists.policies bytes))
    ∷ (0x4F, λ bytes. made (λ x. resources.Pool x) (pool_at lists.pools bytes))
    ∷ (0x43, λ bytes. made (λ x. resources.Client x) (client_at lists.policies lists.clients bytes))
    ∷ (0x53, λ bytes. made (λ x. resources.Schedule x) (schedule_at lists.schedules bytes))
    ∷ (0x47, λ bytes. made (λ x. resources.Group x) (group_at lists.schedules lists.clients lists.groups bytes))
    ∷ []

made-found : {X : Type 0} (at : List ℕ → Part X) (make : X → Resource) (Is : X → Type 0) → Reads at (λ x. fields_text (make x)) Is → (lists : ResourceLists) (kind : ℕ)
    → ((x : X) → Is x → IsResourceIf lists (make x)) → ((x : X) → byte_of (make x) ≡ kind)
    → Finds byte_of fields_text (IsResourceIf lists) (kind, λ bytes. made make (at bytes))
made-found at make Is reads lists kind is same bytes are =
    then-found reads _ _ (begin (λ bytes. made make (at bytes)) bytes are) (λ x rest x-is goes. (took _ goes, (is x x-is, same x)))

chosen-again : (lists : ResourceLists) (resource : Resource) (behind : ℕ) (rest : List ℕ) → IsResourceIf lists resource
    → chosen (resource_readers lists) (byte_of resource) behind (fields_text resource ++ rest) ≡ Ok (resource, rest)
chosen-again lists (resources.Policy policy) behind rest is = ap (λ (part : Part _). made (λ x. resources.Policy x) part) ((policy-reads lists.policies).again policy rest is)
chosen-again lists (resources.Pool pool) behind rest is = ap (λ (part : Part _). made (λ x. resources.Pool x) part) ((pool-reads lists.pools).again pool rest is)
chosen-again lists (resources.Client client) behind rest is = ap (λ (part : Part _). made (λ x. resources.Client x) part) ((client-reads lists.policies lists.clients).again client rest is)
chosen-again lists (resources.Schedule schedule) behind rest is = ap (λ (part : Part _). made (λ x. resources.Schedule x) part) ((schedule-reads lists.schedules).again schedule rest is)
chosen-again lists (resources.Group group) behind rest is = ap (λ (part : Part _). made (λ x. resources.Group x) part) ((group-reads lists.schedules lists.clients lists.groups).again group rest is)

kinds-read : (lists : ResourceLists) → Reads (by_kind_at (resource_readers lists)) resource_text (IsResourceIf lists)
kinds-read lists =
    by_kind-reads (resource_readers lists) byte_of fields_text (IsResourceIf lists) (
      made-found (policy_at lists.policies) (λ x. resources.Policy x) (IsPolicyIf lists.policies) (policy-reads lists.policies) lists 0x50 (λ x is. is) (λ x. refl),
      (
        made-found (pool_at lists.pools) (λ x. resources.Pool x) (IsPoolIf lists.pools) (pool-reads lists.pools) lists 0x4F (λ x is. is) (λ x. refl),
        (
          made-found (client_at lists.policies lists.clients) (λ x. resources.Client x) (IsClientIf lists.policies lists.clients) (client-reads lists.policies lists.clients) lists 0x43 (λ x is. is) (λ x. refl),
          (
            made-found (schedule_at lists.schedules) (λ x. resources.Schedule x) (IsScheduleIf lists.schedules) (schedule-reads lists.schedules) lists 0x53 (λ x is. is) (λ x. refl),
            (
              made-found (group_at lists.schedules lists.clients lists.groups) (λ x. resources.Group x) (IsGroupIf lists.schedules lists.clients lists.groups) (group-reads lists.schedules lists.clients lists.groups) lists 0x47
                  (λ x is. is) (λ x. refl),
              tt,
            ),
          ),
        ),
      ),
    )
    (chosen-again lists)

-- ---- where the kind may follow

abbrev behind_kind : ResourceLists → List ℕ → Part ℕ → Part Resource
behind_kind lists bytes part = part >>= λ kind. chosen (resource_readers lists) kind.0 (length bytes) kind.1

abbrev pub resource_at : ResourceLists → List ℕ → Part Resource
resource_at lists bytes = behind_kind lists bytes (checked (can_follow lists) bytes (byte_at bytes))

same-kind : (lists : ResourceLists) (kind : ℕ) (bytes : List ℕ) → can_follow lists kind ≡ true → resource_at lists (kind ∷ bytes) ≡ by_kind_at (resource_readers lists) (kind ∷ bytes)
unfolding by_kind_at
same-kind lists kind bytes is = ap (λ (test : Bool). behind_kind lists (kind ∷ bytes) (cond test (Ok (kind, bytes)) (Err (length (kind ∷ bytes))))) is

whole-kind : (lists : ResourceLists) (kind : ℕ) (rest before bad : List ℕ) → can_follow lists kind ≡ true → kind ∷ rest ≡ before ++ bad → by_kind_at (resource_readers lists) before ≡ Err 0
    → resource_at lists before ≡ Err 0
whole-kind lists kind rest [] bad is parts none = refl
whole-kind lists kind rest (byte ∷ before) bad is parts none =
    let same : kind ≡ byte = cc in
    same-kind lists byte before (subst (λ (k : ℕ). can_follow lists k ≡ true) same is) ∙ none

abbrev Whole : ResourceLists → List ℕ → Resource → List ℕ → Type 0
Whole lists bytes resource rest = Took bytes (resource_text resource) rest × IsNextResource lists resource

lifted : (lists : ResourceLists) (kind : ℕ) (rest : List ℕ) (part : Part Resource) → can_follow lists kind ≡ true
    → Judged (by_kind_at (resource_readers lists)) (kind ∷ rest) part (λ resource more. Took (kind ∷ rest) (resource_text resource) more × IsResourceIf lists resource)
    → Judged (resource_at lists) (kind ∷ rest) part (Whole lists (kind ∷ rest))
lifted lists kind rest (Ok x) is found =
    let parts = found.0.parts in
    let same : kind ≡ byte_of x.0 = cc in
    (found.0, (found.1, subst (λ (k : ℕ). can_follow lists k ≡ true) same is))
lifted lists kind rest (Err behind) is found = record {
  before = found.before;
  bad = found.bad;
  parts = found.parts;
  size = found.size;
  whole = whole-kind lists kind rest found.before found.bad is found.parts found.whole;
}

at-kind : (lists : ResourceLists) (kind : ℕ) (rest : List ℕ) (test : Bool) → can_follow lists kind ≡ test → AreBytes (kind ∷ rest)
    → Judged (resource_at lists) (kind ∷ rest) (behind_kind lists (kind ∷ rest) (cond test (Ok (kind, rest)) (Err (length (kind ∷ rest))))) (Whole lists (kind ∷ rest))
unfolding by_kind_at
at-kind lists kind rest true is fits = lifted lists kind rest (by_kind_at (resource_readers lists) (kind ∷ rest)) is ((kinds-read lists).found (kind ∷ rest) fits)
at-kind lists kind rest false is fits = record { before = []; bad = kind ∷ rest; parts = refl; size = refl; whole = refl }

resource-found : (lists : ResourceLists) (bytes : List ℕ) → AreBytes bytes → Judged (resource_at lists) bytes (resource_at lists bytes) (Whole lists bytes)
resource-found lists [] fits = record { before = []; bad = []; parts = refl; size = refl; whole = refl }
resource-found lists (kind ∷ rest) fits = at-kind lists kind rest (can_follow lists kind) refl fits

pub resource-reads : (lists : ResourceLists) → Reads (resource_at lists) resource_text (IsNextResource lists)
resource-reads lists = record {
  found = resource-found lists;
  again = λ resource rest is. same-kind lists (byte_of resource) (fields_text resource ++ rest) is.1 ∙ (kinds-read lists).again resource rest is.0;
}

-- ---- the next resources are these with one more

-- a resource that was read is put behind those of its kind
abbrev pub put_behind : ResourceLists → Part Resource → Part ResourceLists
put_behind lists part = part >>= λ x. Ok (with_resource lists x.0, x.1)

put-made : {X : Type 0} (lists : ResourceLists) (make : X → Resource) (part : Part X) → (part >>= λ x. Ok (with_resource lists (make x.0), x.1)) ≡ put_behind lists (made make part)
put-made lists make (Ok x) = refl
put-made lists make (Err behind) = refl

choose : (lists : ResourceLists) (test : Bool) (this that : Part ResourceLists) (one other : Part Resource) → this ≡ put_behind lists one → that ≡ put_behind lists other
    → cond test this that ≡ put_behind lists (cond test one other)
choose lists true this that one other is not = is
choose lists false this that one other is not = not

chosen-same : (lists : ResourceLists) (kind behind : ℕ) (rest : List ℕ) → chosen (lists_readers lists) kind behind rest ≡ put_behind lists (chosen (resource_readers lists) kind behind rest)
unfolding with_policy_at with_pool_at with_client_at with_schedule_at with_group_at
chosen-same lists kind behind rest =
    choose lists (eqb kind 0x50) _ _ _ _ (put-made lists (λ x. resources.Policy x) (policy_at lists.policies rest))
    (choose lists (eqb kind 0x4F) _ _ _ _ (put-made lists (λ x. resources.Pool x) (pool_at lists.pools rest))
    (choose lists (eqb kind 0x43) _ _ _ _ (put-made lists (λ x. resources.Client x) (client_at lists.policies lists.clients rest))
    (choose lists (eqb kind 0x53) _ _ _ _ (put-made lists (λ x. resources.Schedule x) (schedule_at lists.schedules rest))
    (choose lists (eqb kind 0x47) _ _ _ _ (put-made lists (λ x. resources.Group x) (group_at lists.schedules lists.clients lists.groups rest)) refl))))

same-part : (lists : ResourceLists) (bytes : List ℕ) (part : Part ℕ) → (part >>= λ kind. chosen (lists_readers lists) kind.0 (length bytes) kind.1) ≡ put_behind lists (behind_kind lists bytes part)
same-part lists bytes (Ok kind) = chosen-same lists kind.0 (length bytes) kind.1
same-part lists bytes (Err behind) = refl

pub next-same : (lists : ResourceLists) (bytes : List ℕ) → next_at lists bytes ≡ put_behind lists (resource_at lists bytes)
unfolding next_at
next-same lists bytes = same-part lists bytes (checked (can_follow lists) bytes (byte_at bytes))
