-- Whether a body is a JSON object.
use Rattle.std.proofs.Common.{◌≡◌, ℕ, Bool, true, false, List, codes, Some, None, Ok, Err, refl}
use Rattle.std.specs.Str.{IsUtf8, is_utf8}
use Rattle.std.proofs.lemmas.Str.{IsUtf8-from_is_utf8, is_utf8-from_IsUtf8}
use Rattle.serde_json.specs.Data.{Data}
use Rattle.serde_json.specs.Read.{read}
use Rattle.room_base.specs.declared.refusal.Refusal.TheVariants.{Malformed}
use Rattle.desk_command.specs.Fields.{is_object, object_in}

pub object_there : (body : List ℕ) (value : Data) → IsUtf8 body → read body ≡ Some value → is_object value ≡ true
    → object_in body ≡ Ok value
object_there body value text reads is = rw (is_utf8-from_IsUtf8 body text, reads, is)

pub object_other : (body : List ℕ) (value : Data) → IsUtf8 body → read body ≡ Some value → is_object value ≡ false
    → object_in body ≡ Err (Malformed (codes "body"))
object_other body value text reads is = rw (is_utf8-from_IsUtf8 body text, reads, is)

object_by : (body : List ℕ) (text : Bool) → is_utf8 body ≡ text → (IsUtf8 body → read body ≡ None)
    → object_in body ≡ Err (Malformed (codes "body"))
object_by body true is none = rw (is, none (IsUtf8-from_is_utf8 body is))
object_by body false is none = rw is

pub object_missing : (body : List ℕ) → (IsUtf8 body → read body ≡ None) → object_in body ≡ Err (Malformed (codes "body"))
object_missing body none = object_by body (is_utf8 body) refl none
