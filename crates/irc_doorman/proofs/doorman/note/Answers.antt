use Rattle.std.proofs.Common.{◌≡◌, OnOk, subst, sym}
use Rattle.irc_doorman.specs.Doormen.{guest_at, guests_behind}
use Rattle.irc_doorman.proofs.doorman.note.Goals as goal

pub returns-in-Connect : goal.returns-in-Connect
returns-in-Connect c =
    subst (λ event. OnOk c.note_new.result (guest_at c.note_new.new.guests
    ≡ guests_behind c.args.asks.now c.args.moment event (guest_at c.args.guests.now)))
    (sym c.in-Connect.is) c.note_new.ensures
