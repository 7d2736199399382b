-- The lock on a folder.
use Rattle.std.specs.Prelude.{ℕ, List}
use Rattle.room_disk.specs.declared.folder_lock.Access.{Access}
use Rattle.room_disk.specs.declared.folder_lock.LockFault.{LockFault}

-- the name of the folder, and what may be done with its files
pub record LockView : Type 0 where
  pub folder : List ℕ
  pub access : Access

-- the lock that was asked for, and why it wasn't had
pub record UnlockedView : Type 0 where
  pub wanted : LockView
  pub fault : LockFault
