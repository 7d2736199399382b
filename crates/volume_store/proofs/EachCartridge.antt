-- Each cartridge has a meaning, whatever its bytes are.
use Rattle.std.proofs.Common.{◌≡◌, ◌⊎◌, ℕ, zero, suc, ◌+◌, ◌*◌, ◌<◌, ◌≤◌, List, [], ◌∷◌, length, slice_index, refl, sym, subst, arith, inl, inr}
use Rattle.std.proofs.lemmas.Bool.{cases_lt}
use Rattle.std.proofs.Math.Decide.{ℕ_discrete}
use Rattle.volume_block.specs.Valid.{ValidBlock}
use Rattle.volume_block.specs.declared.label.Label.{Label}
use Rattle.volume_block.specs.declared.block.Block.TheVariants as kinds
use Rattle.volume_store.specs.Committed.{block_at, kind_byte_at, CommittedFile, End, Closed, Stop, FilesFrom, Contents, Unlabelled, BadLabel, Labelled, HasLabel, Committed}
use Rattle.volume_block.proofs.Deciding.{is_label, is_mark}
use Rattle.volume_store.proofs.Walking.{places_from}

-- ---- the files from a mark place on

record HasFiles (bytes : List ℕ) (volid units mark : ℕ) : Type 0 where
  files : List CommittedFile
  end : End
  are : FilesFrom bytes volid units mark files end

one_file : (bytes : List ℕ) (volid units mark count : ℕ) → ValidBlock (block_at bytes mark) volid mark (kinds.Mark count units)
    → ((next : ℕ) → HasFiles bytes volid units (mark + units * next + 1)) → HasFiles bytes volid units mark
one_file bytes volid units mark count valid behind =
    let found = places_from bytes volid units (mark + 1) count in
    let file : CommittedFile = record { mark = mark; places = found.places } in
    let rest = behind (length found.places) in
    let Valid : ℕ → Type 0 = λ (n : ℕ). ValidBlock (block_at bytes mark) volid mark (kinds.Mark n units) in
    record { files = file ∷ rest.files; end = rest.end; are = (refl, subst Valid (sym found.counted) valid, found.are, rest.are) }

from_mark : (bytes : List ℕ) (volid units mark : ℕ) → (4096 * mark < length bytes) ⊎ (length bytes ≤ 4096 * mark) → Dec (kind_byte_at bytes mark ≡ 0x46)
    → Dec ((count : ℕ) × ValidBlock (block_at bytes mark) volid mark (kinds.Mark count units))
    → ((next : ℕ) → HasFiles bytes volid units (mark + units * next + 1)) → HasFiles bytes volid units mark
from_mark bytes volid units mark (inr short) opens valid behind = record { files = []; end = Stop mark; are = (refl, inl short) }
from_mark bytes volid units mark (inl inside) (no shut) valid behind = record { files = []; end = Closed mark; are = (refl, inside, shut) }
from_mark bytes volid units mark (inl inside) (yes opens) (no none) behind =
    record { files = []; end = Stop mark; are = (refl, inr (opens, λ count valid. none (count, valid))) }
from_mark bytes volid units mark (inl inside) (yes opens) (yes valid) behind = one_file bytes volid units mark valid.0 valid.1 behind

files_from : (fuel : ℕ) (bytes : List ℕ) (volid units mark : ℕ) → length bytes ≤ 4096 * mark + fuel → HasFiles bytes volid units mark
files_from zero bytes volid units mark ends = record { files = []; end = Stop mark; are = (refl, inl (omega (arith, ends))) }
files_from (suc fuel) bytes volid units mark ends =
    from_mark bytes volid units mark (cases_lt (4096 * mark) (length bytes)) (ℕ_discrete (kind_byte_at bytes mark) 0x46) (is_mark (block_at bytes mark) volid mark units)
    (λ next. files_from fuel bytes volid units (mark + units * next + 1) (omega (arith, ends)))

-- ---- a cartridge

labelled : (bytes : List ℕ) (label : Label) → HasLabel bytes label → HasFiles bytes label.volid.0 label.units 1 → (contents : Contents) × Committed bytes contents
labelled bytes label held found = (Labelled label found.files found.end, (held, found.are))

opened : (bytes : List ℕ) → slice_index bytes 0 ≡ 0x4C → Dec ((label : Label) × HasLabel bytes label) → (contents : Contents) × Committed bytes contents
opened bytes opens (yes held) = labelled bytes held.0 held.1 (files_from (length bytes) bytes held.0.volid.0 held.0.units 1 (omega arith))
opened bytes opens (no none) = (BadLabel, (opens, λ label held. none (label, held)))

cartridge : (bytes : List ℕ) → Dec (slice_index bytes 0 ≡ 0x4C) → (contents : Contents) × Committed bytes contents
cartridge bytes (yes opens) = opened bytes opens (is_label (block_at bytes 0))
cartridge bytes (no shut) = (Unlabelled, shut)

pub every_cartridge_is : (bytes : List ℕ) → (contents : Contents) × Committed bytes contents
every_cartridge_is bytes = cartridge bytes (ℕ_discrete (slice_index bytes 0) 0x4C)
