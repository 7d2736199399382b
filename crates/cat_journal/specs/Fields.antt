-- The fields of heads and entries, as they are read where they stand.
use Rattle.std.specs.Prelude.{ℕ, List, drop}
use Rattle.std.specs.Prelude.{slice_index}
use Rattle.byteorder.specs.Endian.{big_number}
use Rattle.cat_journal.specs.Layout.{Head}

-- ---- a head, at the front of a file's bytes

abbrev pub form_in : List ℕ → ℕ
form_in bytes = slice_index bytes 1

abbrev pub generation_in : List ℕ → ℕ
generation_in bytes = big_number 8 (drop 8 bytes)

abbrev pub number_in : List ℕ → ℕ
number_in bytes = big_number 8 (drop 16 bytes)

abbrev pub size_in : List ℕ → ℕ
size_in bytes = big_number 8 (drop 24 bytes)

abbrev pub head_in : List ℕ → Head
head_in bytes = record {
  form = form_in bytes;
  generation = generation_in bytes;
  number = number_in bytes;
}

-- ---- an entry, behind its gate

abbrev pub entry_number_in : List ℕ → ℕ
entry_number_in bytes = big_number 8 bytes

abbrev pub entry_size_in : List ℕ → ℕ
entry_size_in bytes = big_number 4 (drop 8 bytes)
