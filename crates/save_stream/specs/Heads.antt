-- Heads that stand alone: in parts, and at the front of bytes.
use Rattle.std.specs.Prelude.{◌≡◌, ℕ, List, ◌++◌, length, Result, Ok, Err}
use Rattle.save_stream.specs.declared.fault.HeadFault.{HeadFault}
use Rattle.save_stream.specs.declared.fault.HeadFault.TheVariants as faults
use Rattle.save_stream.specs.declared.head.HeadParts.{HeadParts}
use Rattle.save_stream.specs.declared.head.SetHead.{SetHead}
use Rattle.save_stream.specs.declared.stop.Stop.TheVariants as stops
use Rattle.save_stream.specs.BadField.{head_fields}
use Rattle.save_stream.specs.Reading.{head_at}
use Rattle.save_stream.specs.Spelling.{IsHead, head_text}

-- the head of these parts
abbrev pub head_of_parts : HeadParts → SetHead
head_of_parts parts = record {
  ssid = parts.ssid;
  base = parts.base;
  level = parts.level;
  saved = parts.saved;
  browse = parts.browse;
  retain = parts.retain;
  client = parts.client.now;
  set = parts.set.now;
  group = parts.group.now;
  pool = parts.pool.now;
}

-- bytes end inside a head, whose complete fields are allowed
abbrev pub EndsInHead : List ℕ → Type 0
EndsInHead bytes = head_at bytes ≡ Err stops.More

-- the first field of a head that isn't allowed begins at this offset
pub record HasBadHead (bytes : List ℕ) (offset : ℕ) : Type 0 where
  pub before : List ℕ
  pub bad : List ℕ
  pub rest : List ℕ
  pub parts : bytes ≡ before ++ (bad ++ rest)
  pub offset_is : offset ≡ length before
  pub first_bad : head_fields before bad

-- bytes begin with a head that is allowed, and this is the rest of them
pub record BeginsWith (bytes : List ℕ) (head : SetHead) (rest : List ℕ) : Type 0 where
  pub allowed : IsHead head
  pub parts : bytes ≡ head_text head ++ rest

-- what the reading of a head at the front of bytes answers: the head and the rest of the bytes
abbrev pub ReadsHead : {X : Type 0} → (X → SetHead) → (X → List ℕ) → List ℕ
    → Result X HeadFault → Type 0
ReadsHead head rest bytes (Ok x) = BeginsWith bytes (head x) (rest x)
ReadsHead head rest bytes (Err faults.Incomplete) = EndsInHead bytes
ReadsHead head rest bytes (Err (faults.Bad offset)) = HasBadHead bytes offset
ReadsHead head rest bytes (Err faults.Memory) = Unit {0}
