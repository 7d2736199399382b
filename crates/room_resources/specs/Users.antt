-- What needs a resource, as it is called.
use Rattle.std.specs.Prelude.{codes}
use Rattle.catalog_change.specs.declared.resource.ResourceKind.TheVariants as kinds
use Rattle.room_resources.specs.declared.users.User.{User}
use Rattle.room_resources.specs.declared.users.User.TheVariants as users
use Rattle.room_resources.specs.Called.{Called, called, numbered}

abbrev pub call_of : User → Called
call_of (users.Client name) = called kinds.Client name.now
call_of (users.Group name) = called kinds.Group name.now
call_of (users.Volume volid) = numbered (codes "volume") volid.0
call_of (users.Set ssid) = numbered (codes "set") ssid.0
