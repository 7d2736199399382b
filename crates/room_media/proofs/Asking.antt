-- What wasn't asked.
use Rattle.std.specs.Prelude.{Option, Some, None, IfSome}
use Rattle.room_base.specs.declared.numbers.Moment.{Moment}
use Rattle.media_db.specs.declared.volumes.VolumeRec.{VolumeRec}
use Rattle.room_effects.specs.View.{RoomView}
use Rattle.room_media.specs.Labelling.{IsAsked}

pub none_asked : (m : Moment) (room : RoomView) (volume : Option VolumeRec) → IfSome volume (IsAsked m None room)
none_asked m room None = tt
none_asked m room (Some volume) = tt
