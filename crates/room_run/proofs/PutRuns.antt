-- What storing a file on a raw cartridge leaves.
use Rattle.std.proofs.Common.{◌≡◌, ◌∙◌, ◌+◌, ◌*◌, ◌/◌, ◌%◌, ◌≤◌, ℕ, min, List, [], length, refl, sym, ap, subst, inl, inr, arith}
use Rattle.std.specs.Int.{div_ceil}
use Rattle.std.proofs.lemmas.Bool.{cases_lt}
use Rattle.std.proofs.lemmas.Grind.{div_ceil_times}
use Rattle.room_base.specs.Outside.{ClockView}
use Rattle.volume_block.specs.Chunks.{ChunkText, all_chunks, JoinFrom}
use Rattle.chunk_mux.specs.Packing.{BufferView, pack, empty, Fits, payload_size, chunk_size}
use Rattle.chunk_mux.proofs.Joining.{packed_joins}
use Rattle.chunk_mux.proofs.Numbers.{length-new}
use Rattle.volume_block.specs.Layout.{IsUnits}
use Rattle.volume_block.specs.Region.{IsSealed}
use Rattle.volume_block.proofs.Forms.{units_range}
use Rattle.volume_block.specs.declared.label.Label.{Label}
use Rattle.volume_store.specs.Committed.{CommittedFile, Committed}
use Rattle.volume_store.specs.Writes.{added_file, with_file, IsWholeOrAbsent}
use Rattle.room_run.specs.Raw.{IsRawCartridge, JoinTo}
use Rattle.room_run.specs.Put.{HasOneFileMore, IsNewLabel, IsOccupied, IsPut, IsFirstFile, IsSiteFor, HasRoom, blocks_for, site_units, site_number, site_mark, site_volid}
use Rattle.room_run.specs.declared.site.Site.{Site}
use Rattle.room_run.specs.declared.site.Site.TheVariants as sites

-- a cartridge without a label gets the one file that these blocks are
pub first_is_one_more : (clock : ClockView) (cart : ℕ) (bytes before disk : List ℕ) (label : Label) (blocks : List (List ChunkText)) → JoinTo 1 blocks bytes
    → ¬ (IsOccupied before) → IsNewLabel clock cart label → Committed disk (with_file label [] 1 blocks) → HasOneFileMore clock cart bytes before 1 disk
first_is_one_more clock cart bytes before disk label blocks joined free named stored = record {
  label = label;
  files = [];
  file = added_file 1 blocks;
  end = 1 + label.units * length blocks + 1;
  had = inl (free, refl, named);
  counted = refl;
  stands = stored;
  holds = (blocks, refl, joined);
}

-- a raw cartridge gets one file more
pub next_is_one_more : (clock : ClockView) (cart mark number : ℕ) (bytes before disk : List ℕ) (label : Label) (files : List CommittedFile) (blocks : List (List ChunkText))
    → JoinTo number blocks bytes → IsRawCartridge before label files mark → number ≡ length files + 1
    → Committed disk (with_file label files mark blocks) → HasOneFileMore clock cart bytes before number disk
next_is_one_more clock cart mark number bytes before disk label files blocks joined had counted stored = record {
  label = label;
  files = files;
  file = added_file mark blocks;
  end = mark + label.units * length blocks + 1;
  had = inr (mark, had);
  counted = counted;
  stands = stored;
  holds = (blocks, refl, joined);
}

pub first_is_put : (clock : ClockView) (cart : ℕ) (bytes before disk : List ℕ) (label : Label) (blocks : List (List ChunkText)) → JoinTo 1 blocks bytes
    → ¬ (IsOccupied before) → IsNewLabel clock cart label → IsFirstFile label blocks before disk → IsPut clock cart bytes before disk
first_is_put clock cart bytes before disk label blocks joined free named (inl (inl kept)) = inl kept
first_is_put clock cart bytes before disk label blocks joined free named (inl (inr (inl closed))) = inr (inr (inl (free, inl closed)))
first_is_put clock cart bytes before disk label blocks joined free named (inl (inr (inr empty))) =
    inr (inr (inl (free, inr (label, named, empty))))
first_is_put clock cart bytes before disk label blocks joined free named (inr whole) =
    inr (inr (inr (1, first_is_one_more clock cart bytes before disk label blocks joined free named whole)))

pub next_is_put : (clock : ClockView) (cart mark number : ℕ) (bytes before disk : List ℕ) (label : Label) (files : List CommittedFile) (blocks : List (List ChunkText))
    → JoinTo number blocks bytes → IsRawCartridge before label files mark → number ≡ length files + 1
    → IsWholeOrAbsent label files mark blocks disk → IsPut clock cart bytes before disk
next_is_put clock cart mark number bytes before disk label files blocks joined had counted (inl absent) =
    inr (inl (label, (files, (mark, had, absent))))
next_is_put clock cart mark number bytes before disk label files blocks joined had counted (inr whole) =
    inr (inr (inr (number, next_is_one_more clock cart mark number bytes before disk label files blocks joined had counted whole)))

-- a site that is ready has room for the data blocks of the bytes
pub has_room : (cart size count : ℕ) (site : Site) → IsSiteFor cart size site → count ≡ blocks_for (site_units site) size → HasRoom cart count site
has_room cart size count (sites.New label) ready is =
    let P : ℕ → Type 0 = λ (n : ℕ). label.units * n + 3 ≤ label.capacity in
    (ready.0, ready.1, subst P (sym is) ready.2)
has_room cart size count (sites.Next volume number) ready is =
    let P : ℕ → Type 0 = λ (n : ℕ). volume.mark + volume.label.units * n + 2 ≤ volume.label.capacity in
    (ready.0, subst P (sym is) ready.3)

-- a chunk of a block of its own has a byte and more
chunk_some : (units : ℕ) → 1 ≤ units → 1 ≤ chunk_size (payload_size units)
chunk_some units some = omega (arith, some)

-- a byte takes a data block
pub some_blocks : (units size : ℕ) → 1 ≤ units → 1 ≤ size → 1 ≤ blocks_for units size
some_blocks units size most some = count_some size (chunk_size (payload_size units)) (chunk_some units most) some
  where
    count_some : (size most : ℕ) → 1 ≤ most → 1 ≤ size → 1 ≤ div_ceil size most
    count_some size most one some =
        let enough : size ≤ (size / most + min 1 (size % most)) * most = (div_ceil_times size most one).0 in
        elim (cases_lt 0 (size / most + min 1 (size % most))) [
          | inl above ↦ above
          | inr below ↦
              let none : size / most + min 1 (size % most) ≡ 0 = omega (arith, below) in
              let P : ℕ → Type 0 = λ (n : ℕ). size ≤ n * most in
              absurd (omega (arith, some, subst P none enough))
        ]

-- ---- one push into an empty buffer

pub pack_joins : (units ssid copy offset : ℕ) (piece : List ℕ) → 1 ≤ units
    → JoinFrom ssid copy offset (all_chunks (pack (empty units) ssid copy offset piece).blocks) piece
unfolding pack
pack_joins units ssid copy offset piece some = packed_joins (payload_size units) ssid copy offset piece (chunk_some units some)

pub pack_count : (units ssid copy offset : ℕ) (piece : List ℕ) → 1 ≤ units
    → length (pack (empty units) ssid copy offset piece).blocks ≡ blocks_for units (length piece)
unfolding pack
pack_count units ssid copy offset piece some =
    length-new (chunk_size (payload_size units)) (length piece) ssid copy offset piece (chunk_some units some) (omega arith)

pub pack_units : (units ssid copy offset : ℕ) (piece : List ℕ) → (pack (empty units) ssid copy offset piece).units ≡ units
unfolding pack
pack_units units ssid copy offset piece = refl

pub fits_empty : (units size : ℕ) → 1 ≤ units → size ≤ 257024 → Fits (empty units) size
fits_empty units size some most = omega (arith, some, most)

-- the units of a site that is ready
pub site_has_units : (cart size : ℕ) (site : Site) → IsSiteFor cart size site → IsUnits (site_units site)
site_has_units cart size (sites.New label) ready = ready.1.units
site_has_units cart size (sites.Next volume number) ready = ready.1.units

-- ---- the buffer that a file is committed from

-- the buffer has the file of the site alone
pub record IsFileOf (site : Site) (bytes : List ℕ) (buffer : BufferView) : Type 0 where
  pub units : buffer.units ≡ site_units site
  pub counted : length buffer.blocks ≡ blocks_for (site_units site) (length bytes)
  pub joined : JoinTo (site_number site) buffer.blocks bytes

pub is_file_of : (cart : ℕ) (site : Site) (bytes : List ℕ) (fresh buffer : BufferView) (units number : ℕ) → IsSiteFor cart (length bytes) site → units ≡ site_units site
    → number ≡ site_number site → fresh ≡ empty units → buffer ≡ pack fresh number 1 0 bytes → IsFileOf site bytes buffer
is_file_of cart site bytes fresh buffer units number ready of_site numbered new packed =
    let some = (units_range (site_units site) (site_has_units cart (length bytes) site ready)).0 in
    let are : buffer ≡ pack (empty (site_units site)) (site_number site) 1 0 bytes =
    packed ∙ ap (λ (one : BufferView). pack one number 1 0 bytes) new ∙ ap (λ (n : ℕ). pack (empty n) number 1 0 bytes) of_site
    ∙ ap (λ (n : ℕ). pack (empty (site_units site)) n 1 0 bytes) numbered in
    let J : BufferView → Type 0 = λ (one : BufferView). JoinTo (site_number site) one.blocks bytes in
    record {
      units = ap (λ (one : BufferView). one.units) are ∙ pack_units (site_units site) (site_number site) 1 0 bytes;
      counted = ap (λ (one : BufferView). length one.blocks) are ∙ pack_count (site_units site) (site_number site) 1 0 bytes some;
      joined = subst J (sym are) (pack_joins (site_units site) (site_number site) 1 0 bytes some);
    }

pub sealed_for : (site : Site) (bytes : List ℕ) (buffer : BufferView) (volid mark : ℕ) (region : List ℕ) → IsFileOf site bytes buffer → volid ≡ site_volid site
    → mark ≡ site_mark site → IsSealed volid mark buffer.units buffer.blocks region
    → IsSealed (site_volid site) (site_mark site) (site_units site) buffer.blocks region
sealed_for site bytes buffer volid mark region is volid_is mark_is sealed =
    let V : ℕ → Type 0 = λ (v : ℕ). IsSealed v mark buffer.units buffer.blocks region in
    let M : ℕ → Type 0 = λ (m : ℕ). IsSealed (site_volid site) m buffer.units buffer.blocks region in
    let U : ℕ → Type 0 = λ (u : ℕ). IsSealed (site_volid site) (site_mark site) u buffer.blocks region in
    subst U is.units (subst M mark_is (subst V volid_is sealed))
