use Rattle.std.proofs.Common.{refl}
use Rattle.room_effects.proofs.Sending.{does_close, does_open, does_push, does_put_in, does_take, does_take_out}
use Rattle.room_effects.proofs.deeds.effects_in_memory.Goals as goal

pub returns : goal.returns
returns g c =
    let disk = g.D.Store.view c.args.disk.now in
    record {
      push = λ drive ssid copy offset bytes room is can. does_push {T = Unit {0}} drive ssid copy offset bytes tt room _ disk is can refl;
      put_in = λ drive volume room is can. does_put_in {T = Unit {0}} drive volume tt room _ disk is can refl;
      take_out = λ drive room is can. does_take_out {T = Unit {0}} drive tt room _ disk is can refl;
      begins = λ head room can. does_open {T = Unit {0}} head tt room _ disk can refl;
      take = λ ssid piece room can. does_take {T = Unit {0}} ssid piece tt room _ disk can refl;
      close = λ ssid room can. does_close {T = Unit {0}} ssid tt room _ disk can refl;
    }
