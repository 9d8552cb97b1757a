use Rattle.std.specs.Prelude.{IfOk}
use Rattle.std.proofs.Common.{◌≡◌, ◌∙◌, ℕ, Bool, List, refl, sym, ap, map, subst}
use Rattle.irc_room.specs.Loops.Viewing.{hears_text}
use Rattle.irc_effects.specs.Found.{users_who}
use Rattle.arrayvec.specs.ArrayVec.{ArrayVec}
use Rattle.irc_effects.specs.declared.effect.Target.{Target}
use Rattle.irc_effects.specs.declared.effect.Target.TheVariants as target
use Rattle.irc_effects.specs.declared.effect.Effect.TheVariants.{Say}
use Rattle.irc_effects.specs.Room.{Room}
use Rattle.irc_effects.specs.Seen.{sees}
use Rattle.irc_room.proofs.WhoSees.{nobody_chosen}
use Rattle.irc_room.proofs.viewers.viewers.Goals as goal

pub returns-in-AddUser : goal.returns-in-AddUser
returns-in-AddUser c =
    ap (map (λ user. user.now)) c.new.ensures.items
    ∙ nobody_chosen c.args.tables.now.users _
    (λ viewer. ap (λ effect. sees c.args.tables.now effect viewer) c.in-AddUser.is)

said_heard : (room : Room) (by : List ℕ) (notice : Bool) (to : Target) (text : ArrayVec ℕ)
    → hears_text room by to ≡ sees room (Say by notice to text)
said_heard room by notice (target.User nick) text = refl
said_heard room by notice (target.Channel channel) text = refl

pub returns-in-Say : goal.returns-in-Say
returns-in-Say c =
    let room = c.args.tables.now in
    let finds = λ (test : List ℕ → Bool). IfOk c.hearers.result
    (λ found. map (λ user. user.now) found.items ≡ users_who room.users test) in
    subst (λ effect. finds (sees room effect)) (sym c.in-Say.is)
    (subst finds (said_heard room c.in-Say.by c.in-Say.notice c.in-Say.target c.in-Say.text)
    c.hearers.ensures)
