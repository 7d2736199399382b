-- Tests of a text.
use Rattle.std.proofs.Common.{◌≡◌, ℕ, Bool, true, false, List, refl}
use Rattle.room_base.specs.Text.{IsName, IsPathText}
use Rattle.save_stream.specs.Reading.{is_name, is_path}
use Rattle.save_stream.proofs.Again.{is_name-again, is_path-again}
use Rattle.save_stream.proofs.Sound.{is_name-is, is_path-is}

pub name_is : (text : List ℕ) → IsName text → is_name text ≡ true
name_is text is = is_name-again text is

pub path_is : (text : List ℕ) → IsPathText text → is_path text ≡ true
path_is text is = is_path-again text is

fails : (test : Bool) → ¬ (test ≡ true) → test ≡ false
fails true none = absurd (none refl)
fails false none = refl

pub no_name : (text : List ℕ) → ¬ (IsName text) → is_name text ≡ false
no_name text none = fails (is_name text) (λ is. none (is_name-is text is))

pub no_path : (text : List ℕ) → ¬ (IsPathText text) → is_path text ≡ false
no_path text none = fails (is_path text) (λ is. none (is_path-is text is))
