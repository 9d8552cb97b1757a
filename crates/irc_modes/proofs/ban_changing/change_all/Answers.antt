use Rattle.std.proofs.Common.{◌+◌, ◌∙◌, ap, refl, sym, subst, take, drop}
use Rattle.std.specs.Prelude.{vec_len, vec_capacity}
use Rattle.std.proofs.lemmas.List.Sums.{fold_more}
use Rattle.irc_modes.specs.declared.modes.ModeChange.{ModeChange}
use Rattle.irc_modes.specs.Loops.ManyChanges.{ban_step, bans_after}
use Rattle.irc_modes.proofs.BanRoom.{HasRoom, room_at_start, room_before_item, room_after_item}
use Rattle.irc_modes.proofs.ban_changing.change_all.Goals as goal

pub loop-change-init : goal.loop-change-init
loop-change-init c = record {
  so_far = refl;
  ordered = c.requires.ordered;
  room = room_at_start c.args.bans.now.items c.args.changes.now (vec_len c.args.bans.now)
      (vec_capacity c.args.bans.now) c.args.bans.now.ok.0 c.requires.room;
}

pub change_one-requires-clause-room : goal.change_one-requires-clause-room
change_one-requires-clause-room c = room_before_item c.args.bans.now.items c.loop-change.bans.items
    c.args.changes.now c.loop-change.change-index c.change-item.result
    (vec_len c.loop-change.bans)
    (vec_capacity c.loop-change.bans) c.requires.ordered c.loop-change.invariant.ordered
    c.loop-change-test.true c.change-item.is c.loop-change.bans.ok.0 c.loop-change.invariant.room

pub loop-change-preserved : goal.loop-change-preserved
loop-change-preserved c =
    let start = c.args.bans.now.items in
    let changes = c.args.changes.now in
    let i = c.loop-change.change-index in
    let change = c.change-item.result in
    let after = c.change_one.ensures.value in
    record {
      so_far =
          after
          ∙ ap (λ bans. ban_step bans change) c.loop-change.invariant.so_far
          ∙ ap (λ (m : ModeChange). ban_step (bans_after (take i changes) start) m) c.change-item.is
          ∙ sym (fold_more ban_step start changes i change c.loop-change-test.true);
      ordered = c.change_one.ensures.ordered;
      room = subst (λ bans. HasRoom start (drop (i + 1) changes) bans
          (vec_capacity c.change_one.new.bans)) (sym after)
          (room_after_item start c.loop-change.bans.items changes i change
          (vec_capacity c.loop-change.bans) (vec_capacity c.change_one.new.bans)
          c.requires.ordered c.loop-change.invariant.ordered c.loop-change-test.true
          c.change-item.is c.loop-change.invariant.room c.change_one.ensures.capacity);
    }
