-- The catalogue of a room that has just been made is allowed.
use Rattle.std.proofs.Common.{◌≡◌, ℕ, List, [], ◌∷◌, refl, rules, arith, subst, sym}
use Rattle.std.proofs.lemmas.Str.{IsUtf8-from_ascii}
use Rattle.std.proofs.lemmas.List.Elements.{All-from_recursion}
use Rattle.room_base.specs.Text.{IsPrintable}
use Rattle.media_db.specs.declared.records.Record.{Record}
use Rattle.media_db.specs.declared.volumes.VolumeRec.{VolumeRec}
use Rattle.client_index.specs.declared.index.SetIndex.{SetIndex}
use Rattle.catalog_change.specs.declared.slot.FilledSlot.{FilledSlot}
use Rattle.catalog_change.specs.Resources.{IsShortName}
use Rattle.room_catalog.specs.Held.{CatalogueLists, Parts, no_parts}
use Rattle.resource_lists.specs.Lists.{ResourceLists, opening_resources}
use Rattle.room_catalog.specs.Invariant.{IsHeld}

month : List ℕ
month = 77 ∷ 111 ∷ 110 ∷ 116 ∷ 104 ∷ []

month_name : IsShortName month
unfolding month
month_name = ((omega arith, omega arith), (IsUtf8-from_ascii month (search rules), All-from_recursion IsPrintable month (search rules)))

year : List ℕ
year = 89 ∷ 101 ∷ 97 ∷ 114 ∷ []

year_name : IsShortName year
unfolding year
year_name = ((omega arith, omega arith), (IsUtf8-from_ascii year (search rules), All-from_recursion IsPrintable year (search rules)))

default_text : List ℕ
default_text = 68 ∷ 101 ∷ 102 ∷ 97 ∷ 117 ∷ 108 ∷ 116 ∷ []

default_name : IsShortName default_text
unfolding default_text
default_name = ((omega arith, omega arith), (IsUtf8-from_ascii default_text (search rules), All-from_recursion IsPrintable default_text (search rules)))

room : List ℕ
room = 114 ∷ 111 ∷ 111 ∷ 109 ∷ []

room_name : IsShortName room
unfolding room
room_name = ((omega arith, omega arith), (IsUtf8-from_ascii room (search rules), All-from_recursion IsPrintable room (search rules)))

abbrev lists_of : ResourceLists → List FilledSlot → List VolumeRec → List Record → List SetIndex → Parts → CatalogueLists
lists_of resources slots volumes records sets parts = record {
  number = 0;
  last_moment = 0;
  next_ssid = 1;
  next_volid = 1;
  resources = resources;
  slots = slots;
  volumes = volumes;
  records = records;
  sets = sets;
  parts = parts;
}

opening_is : IsHeld (lists_of opening_resources [] [] [] [] no_parts)
unfolding month year default_text room
opening_is = record {
  catalogue = record {
    number = omega arith;
    last_moment = omega arith;
    next_ssid = (omega arith, omega arith);
    next_volid = (omega arith, omega arith);
    resources = record {
      policies = record { each = (record { name = month_name; count = (omega arith, omega arith) }, (record { name = year_name; count = (omega arith, omega arith) }, tt)); order = (refl, tt) };
      pools = record {
        each = (record { name = default_name; groups = record { count = omega arith; each = tt }; clients = record { count = omega arith; each = tt }; sets = record { count = omega arith; each = tt }; levels = omega arith }, tt);
        order = tt;
      };
      clients = record { each = (record { name = room_name; browse = month_name; retention = year_name }, tt); order = tt };
      schedules = record { each = tt; order = tt };
      groups = record { each = tt; order = tt };
      count = omega arith;
      kept = ((refl, refl), tt);
      scheduled = tt;
      default = refl;
      room = refl;
    };
    slots = record { each = tt; order = tt; carts = tt };
    volumes = record { each = tt; order = tt; carts = tt; count = omega arith };
    records = record { each = tt; order = tt; count = omega arith };
    indexes = λ ssid. (record { each = tt; order = tt; count = omega arith }, λ none. refl);
  };
  parts = tt;
}

pub opening_held : (resources : ResourceLists) (slots : List FilledSlot) (volumes : List VolumeRec) (records : List Record) (sets : List SetIndex) (parts : Parts)
    → resources ≡ opening_resources → slots ≡ [] → volumes ≡ [] → records ≡ [] → sets ≡ [] → parts ≡ no_parts → IsHeld (lists_of resources slots volumes records sets parts)
opening_held resources slots volumes records sets parts a b c d e f =
    subst (λ (x : ResourceLists). IsHeld (lists_of x slots volumes records sets parts)) (sym a)
    (subst (λ (x : List FilledSlot). IsHeld (lists_of opening_resources x volumes records sets parts)) (sym b)
    (subst (λ (x : List VolumeRec). IsHeld (lists_of opening_resources [] x records sets parts)) (sym c)
    (subst (λ (x : List Record). IsHeld (lists_of opening_resources [] [] x sets parts)) (sym d)
    (subst (λ (x : List SetIndex). IsHeld (lists_of opening_resources [] [] [] x parts)) (sym e)
    (subst (λ (x : Parts). IsHeld (lists_of opening_resources [] [] [] [] x)) (sym f) opening_is)))))
