-- A text is put together from its kinds, and those from their resources.
use Rattle.std.proofs.Common.{◌≡◌, ℕ, List, [], ◌∷◌, ◌++◌, map, None, Some, Result, Ok, Err, inl, inr, ap, codes, refl, Vec, Global, subst, string_bytes}
use Rattle.toml.proofs.Views.{Entry}
use Rattle.toml.specs.Data.{Data, Members, get_member}
use Rattle.toml.specs.View.{members_view, view}
use Rattle.catalog_change.specs.declared.resource.Resource.{Resource}
use Rattle.catalog_change.specs.declared.resource.ResourceKind.{ResourceKind}
use Rattle.catalog_change.specs.Resources.{IsShortName}
use Rattle.resource_text.specs.Reading.{IsItself, IsTable, Outcome, Reads, ReadsField, ReadsKeys, other_key}
use Rattle.resource_text.specs.Resources.{Adds, IsDocument, ReadsAll, all_kinds, document_gives, each_gives, gives_of, kind_gives, kind_key, kinds_give, resource_gives, text_gives}
use Rattle.resource_text.specs.declared.fault.TextFault.{TextFault}
use Rattle.resource_text.specs.declared.fault.TextFault.TheVariants.{Malformed, Memory}

-- ---- a resource

pub table_stops : (kind : ResourceKind) (name itself : List ℕ) (value : Data) (fault : TextFault)
    → IsItself IsShortName name itself → ReadsField (kind_key kind) (IsTable value) (Err fault)
    → Reads (resource_gives kind name value) (Err fault)
table_stops kind name itself value (Malformed field) is (none, named) =
    inl (itself, is, inr (none, ap Err named))
table_stops kind name itself value Memory is reads = tt

pub resource_read : (kind : ResourceKind) (name itself : List ℕ) (value : Data) (all : Members)
    (result : Result Resource TextFault) → IsItself IsShortName name itself → IsTable value all
    → Reads (gives_of kind itself all) result → Reads (resource_gives kind name value) result
resource_read kind name itself value all (Ok one) is table gives = inl (itself, is, inl (all, table, gives))
resource_read kind name itself value all (Err (Malformed field)) is table gives = inl (itself, is, inl (all, table, gives))
resource_read kind name itself value all (Err Memory) is table gives = tt

-- ---- a kind

pub kind_stops : (kind : ResourceKind) (value : Data) (done now : List Resource) (fault : TextFault)
    → ReadsField (kind_key kind) (IsTable value) (Err fault)
    → Adds (kind_gives kind (Some value) done) now (Err fault)
kind_stops kind value done now (Malformed field) (none, named) = inr (none, ap Err named)
kind_stops kind value done now Memory reads = tt

-- what these kinds give behind what is done, all give
abbrev pub GiveAll : Members → List ResourceKind → List Resource → Type 0
GiveAll all rest done = (outcome : Outcome (List Resource)) → kinds_give rest all done outcome
    → kinds_give all_kinds all [] outcome

pub kind_added : (all : Members) (kind : ResourceKind) (rest : List ResourceKind)
    (done now : List Resource) → GiveAll all (kind ∷ rest) done
    → kind_gives kind (get_member (kind_key kind) all) done (Ok now) → GiveAll all rest now
kind_added all kind rest done now so gives = λ outcome then. so outcome (inl (now, gives, then))

pub kinds_stop : (all : Members) (kind : ResourceKind) (rest : List ResourceKind)
    (done now : List Resource) (fault : TextFault) → GiveAll all (kind ∷ rest) done
    → other_key (map kind_key all_kinds) all ≡ None
    → Adds (kind_gives kind (get_member (kind_key kind) all) done) now (Err fault)
    → ReadsAll (document_gives all) (Err fault)
kinds_stop all kind rest done now (Malformed field) so keys gives =
    inl (keys, so (Err field) (inr (field, gives, refl)))
kinds_stop all kind rest done now Memory so keys gives = tt

pub keys_stop : (all : Members) (fault : TextFault)
    → ReadsKeys (map kind_key all_kinds) all (Err fault) → ReadsAll (document_gives all) (Err fault)
keys_stop all (Malformed name) (key, found, called) = inr (key, name, found, called, refl)
keys_stop all Memory reads = tt

-- ---- a text

pub text_stops : (bytes : List ℕ) (fault : TextFault)
    → ReadsField (codes "text") (IsDocument bytes) (Err fault) → ReadsAll (text_gives bytes) (Err fault)
text_stops bytes (Malformed field) (none, named) = inr (none, ap Err named)
text_stops bytes Memory reads = tt

pub text_read : (bytes : List ℕ) (all : Members) (result : Result (Vec Resource Global) TextFault)
    → IsDocument bytes all → ReadsAll (document_gives all) result → ReadsAll (text_gives bytes) result
text_read bytes all (Ok list) is gives = inl (all, is, gives)
text_read bytes all (Err (Malformed field)) is gives = inl (all, is, gives)
text_read bytes all (Err Memory) is gives = tt

-- ---- the resources of one kind

-- what these entries give behind what is done, all entries give behind what was there before
abbrev pub EachGives : ResourceKind → List Entry → List Resource → List Entry → List Resource → Type 0
EachGives kind all old rest done = (outcome : Outcome (List Resource))
    → each_gives kind (members_view rest) done outcome → each_gives kind (members_view all) old outcome

pub each_stops : (kind : ResourceKind) (all : List Entry) (old : List Resource) (rest : List Entry)
    (entry : Entry) (done now : List Resource) (fault : TextFault)
    → EachGives kind all old (entry ∷ rest) done
    → Reads (resource_gives kind (string_bytes entry.0) (view entry.1)) (Err fault)
    → Adds (each_gives kind (members_view all) old) now (Err fault)
each_stops kind all old rest entry done now (Malformed field) so gives = so (Err field) (inr (field, gives, refl))
each_stops kind all old rest entry done now Memory so gives = tt

pub each_added : (kind : ResourceKind) (all : List Entry) (old : List Resource) (rest : List Entry)
    (entry : Entry) (done new : List Resource) (one : Resource)
    → EachGives kind all old (entry ∷ rest) done
    → Reads (resource_gives kind (string_bytes entry.0) (view entry.1)) (Ok one)
    → new ≡ done ++ one ∷ [] → EachGives kind all old rest new
each_added kind all old rest entry done new one so gives new_is = λ outcome then.
    so outcome (inl (one, gives, subst (λ items. each_gives kind (members_view rest) items outcome) new_is then))
