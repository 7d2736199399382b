-- The folder of a store.
use Rattle.room_disk.specs.declared.folder.Folder.{Ghosts}
use Rattle.room_disk.specs.declared.folder_store.FolderStore.{FolderStore}

-- the folder that the store is
abbrev pub folder_of : {F File : Type 0} {folder : Ghosts F File} → FolderStore F File folder → F
folder_of store = store.known.folder
