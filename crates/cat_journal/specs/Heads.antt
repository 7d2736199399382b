-- The front that is read of a file.
use Rattle.std.specs.Prelude.{◌≡◌, ◌≢◌, ℕ, ◌+◌, ◌-◌, ◌≤◌, ◌^◌, ◌<◌, Bool, true, false, List, ◌++◌}
use Rattle.std.specs.Prelude.{length, take, drop, replicate, slice_index, Option, Some, None}
use Rattle.sha2.specs.Sha256.{sha256}
use Rattle.sha2.specs.Hashers.{Holds256}
use Rattle.sha2.specs.declared.Sha256.{Sha256}
use Rattle.cat_journal.specs.Layout.{Head, HasForm, head_text}
use Rattle.cat_journal.specs.Fields.{form_in, generation_in, number_in, size_in}
use Rattle.cat_journal.specs.declared.front.FileHead.{FileHead}
use Rattle.cat_journal.specs.declared.front.FrontRead.{FrontRead}
use Rattle.cat_journal.specs.declared.front.FrontRead.TheVariants as read

-- the fields at the front of a file with so many bytes are allowed, and its snapshot ends in it
pub record IsHeadText (text : List ℕ) (end : ℕ) : Type 0 where
  pub whole : length text ≡ 64
  pub form : HasForm (form_in text) (generation_in text)
  pub zeros : take 6 (drop 2 text) ≡ replicate 6 0
  pub first : 1 ≤ generation_in text
  pub size : 64 + size_in text ≤ end

abbrev pub file_head : List ℕ → ℕ → FileHead
file_head text end = record {
  form = form_in text;
  generation = generation_in text;
  number = number_in text;
  size = size_in text;
  end = end;
  fields = take 31 (drop 1 text);
  digest = take 32 (drop 32 text);
}

-- what is read of the first 64 bytes, or of fewer where the file ends before
abbrev pub FindsHead : List ℕ → ℕ → FrontRead → Type 0
FindsHead text end read.Shut = slice_index text 0 ≢ 0x4A
FindsHead text end read.Bad = (slice_index text 0 ≡ 0x4A) × ¬ IsHeadText text end
FindsHead text end (read.Open head) =
    (slice_index text 0 ≡ 0x4A) × IsHeadText text end × (head ≡ file_head text end)

-- what a head that is read says
abbrev pub head_of : FileHead → Head
head_of head =
    record { form = head.form; generation = head.generation; number = head.number }

-- the fields of a head that is read are in their ranges, and spelled so
pub record IsFileHead (head : FileHead) : Type 0 where
  pub form : HasForm head.form head.generation
  pub first : 1 ≤ head.generation
  pub number : head.number < 2 ^ 64
  pub short : head.size < 2 ^ 64
  pub size : 64 + head.size ≤ head.end
  pub text : head.fields ≡ head_text (head_of head) head.size

abbrev pub HasFileHead : FrontRead → Type 0
HasFileHead (read.Open head) = IsFileHead head
HasFileHead other = Unit {0}

-- the digest is that of the head and the snapshot behind it
abbrev pub HasSnapshot : List ℕ → FileHead → List ℕ → Type 0
HasSnapshot bytes head snapshot = (head.size ≤ length bytes - 64)
    × (snapshot ≡ take head.size (drop 64 bytes)) × (sha256 (head.fields ++ snapshot) ≡ head.digest)

abbrev pub FindsSnapshot : List ℕ → FileHead → Option (List ℕ) → Type 0
FindsSnapshot bytes head None = (snapshot : List ℕ) → ¬ HasSnapshot bytes head snapshot
FindsSnapshot bytes head (Some snapshot) = HasSnapshot bytes head snapshot

abbrev pub ChecksSnapshot : List ℕ → FileHead → Bool → Type 0
ChecksSnapshot bytes head true = (snapshot : List ℕ) × HasSnapshot bytes head snapshot
ChecksSnapshot bytes head false = (snapshot : List ℕ) → ¬ HasSnapshot bytes head snapshot

-- the bytes from a place on were digested behind what was before, or fewer are there
abbrev pub DigestsPart : List ℕ → ℕ → ℕ → Sha256 → Sha256 → Bool → Type 0
DigestsPart bytes at size old new true = (size ≤ length bytes - at)
    × ((before : List ℕ) → Holds256 old before → Holds256 new (before ++ take size (drop at bytes)))
DigestsPart bytes at size old new false = length bytes - at < size
