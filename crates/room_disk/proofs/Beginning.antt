-- A store in memory begins blank.
use Rattle.std.proofs.Common.{◌≡◌, ℕ, [], replicate, get_or, refl, arith, inl, inr}
use Rattle.std.proofs.lemmas.List.{get_or-replicate, get_or_past, length-replicate}
use Rattle.std.proofs.lemmas.Bool.{cases_lt}
use Rattle.room_disk.specs.Blank.{IsBlank}
use Rattle.room_disk.specs.Faults.{faults_on, no_faults, count_place}
use Rattle.room_disk.specs.Memory.{StoreInMemory, told_store}

all_same : (count place byte : ℕ) → get_or (replicate count byte) place byte ≡ byte
all_same count place byte = elim (cases_lt place count) [
  | inl inside ↦ get_or-replicate count place byte byte inside
  | inr past ↦ get_or_past (replicate count byte) place byte (omega (arith, length-replicate {A = ℕ} count))
]

no_fault : (file : ℕ) → faults_on no_faults file ≡ 0
unfolding no_faults
no_fault file = all_same 259 (count_place file) 0

pub begins_blank : (store : StoreInMemory) → store.past ≡ record { first = []; events = [] } → store.faults ≡ no_faults → IsBlank (told_store store)
begins_blank store blank faults =
    rw blank (record {
      tells = refl;
      reads = λ file. refl;
      settled = λ file bytes left. left;
      since = λ moment image left file. left.1 file;
      faults = λ file. rw faults (no_fault file);
    })
