use Rattle.std.proofs.Common.{◌∙◌, sym, refl}
use Rattle.std.proofs.Math.Bool.{false≢true}
use Rattle.std.proofs.lemmas.Option.{none-some}
use Rattle.irc_room.proofs.Refusals.{named_in, unchanged, served, idle_kept}
use Rattle.irc_room.proofs.room.Room.change.Goals as goal

pub returns-in-Some-clause-changed : goal.returns-in-Some-clause-changed
returns-in-Some-clause-changed c =
    unchanged c.args.self.now c.args.effect.now c.in-Some.fault
    (c.in-Some.ensures (named_in _ _ _ _ c.self.view_is c.named-named.ensures))

pub returns-in-Some-clause-idle : goal.returns-in-Some-clause-idle
returns-in-Some-clause-idle c =
    λ idle none. absurd (none-some c.in-Some.fault (sym none
    ∙ sym (c.in-Some.ensures (named_in _ _ _ _ c.self.view_is c.named-named.ensures))))

pub returns-then-is_idle-clause-changed : goal.returns-then-is_idle-clause-changed
returns-then-is_idle-clause-changed c =
    let named = named_in _ c.args.self.now _ _ c.self.view_is c.named-named.ensures in
    let idle = sym (c.is_idle.ensures c.args.self.now.room named) ∙ c.if-is_idle.true in (
      sym (c.fault_of.ensures named) ∙ c.in_default.is,
      idle_kept c.args.self.now c.args.effect.now idle,
    )

pub returns-then-is_idle-clause-idle : goal.returns-then-is_idle-clause-idle
returns-then-is_idle-clause-idle c = λ idle none. (refl, refl)

pub make-requires-clause-alive : goal.make-requires-clause-alive
make-requires-clause-alive c =
    let named = named_in _ c.args.self.now _ _ c.self.view_is c.named-named.ensures in
    (served c.args.self.now c.args.effect.now
    (sym (c.fault_of.ensures named) ∙ c.in_default.is)).alive

pub make-requires-clause-possible : goal.make-requires-clause-possible
make-requires-clause-possible c =
    let named = named_in _ c.args.self.now _ _ c.self.view_is c.named-named.ensures in
    let all = served c.args.self.now c.args.effect.now
    (sym (c.fault_of.ensures named) ∙ c.in_default.is) in record {
      users_there = all.users_there;
      channel_there = all.channel_there;
      nick_free = c.requires;
    }

pub returns-in-Ok-clause-changed : goal.returns-in-Ok-clause-changed
returns-in-Ok-clause-changed c =
    let named = named_in _ c.args.self.now _ _ c.self.view_is c.named-named.ensures in
    (sym (c.fault_of.ensures named) ∙ c.in_default.is, c.in-Ok.ensures.ok)

pub returns-in-Err-clause-changed : goal.returns-in-Err-clause-changed
returns-in-Err-clause-changed c =
    let named = named_in _ c.args.self.now _ _ c.self.view_is c.named-named.ensures in
    (sym (c.fault_of.ensures named) ∙ c.in_default.is, c.in-Err.ensures.refused)

pub returns-in-Ok-clause-idle : goal.returns-in-Ok-clause-idle
returns-in-Ok-clause-idle c = λ idle none.
    let named = named_in _ c.args.self.now _ _ c.self.view_is c.named-named.ensures in
    absurd
    (false≢true (sym c.if-is_idle.false ∙ c.is_idle.ensures c.args.self.now.room named ∙ idle))

pub returns-in-Err-clause-idle : goal.returns-in-Err-clause-idle
returns-in-Err-clause-idle c = λ idle none.
    let named = named_in _ c.args.self.now _ _ c.self.view_is c.named-named.ensures in
    absurd
    (false≢true (sym c.if-is_idle.false ∙ c.is_idle.ensures c.args.self.now.room named ∙ idle))
