use Rattle.std.proofs.Common.{◌∙◌, ◌++◌, List, ℕ, sym, ap, subst}
use Rattle.irc_names.specs.Fold.{key}
use Rattle.irc_names.specs.Tables.{row}
use Rattle.irc_tables.specs.Lemmas.RowsAsTable.{ok_also}
use Rattle.irc_room.specs.Effects.{is_member}
use Rattle.irc_acts.specs.Moves.{AreOwnJoins}
use Rattle.irc_acts.specs.MoveLaws.{own_joins_are_moves}
use Rattle.irc_channel_commands.specs.declared.TheConstants.{MAX_JOINED}
use Rattle.irc_channel_commands.specs.Join.{joins_found}
use Rattle.irc_channel_commands.proofs.JoinOne.{served_as, tested_few, tested_outside, was_outside}
use Rattle.irc_channel_commands.proofs.join.join_one.Goals as goal

pub channels-requires-clause-moves : goal.channels-requires-clause-moves
channels-requires-clause-moves c =
    let nick = c.args.context.now.me.now.nick in
    let room = c.args.context.now.room.now.room in
    own_joins_are_moves nick room c.as_slice-2.result.now
    (subst (AreOwnJoins nick room) (sym c.as_slice-2.ensures.value) c.requires.joins)

pub join_found-requires : goal.join_found-requires
join_found-requires c =
    let me = c.args.context.now.me.now in
    let room = c.args.context.now.room.now.room in
    ap (is_member room me.nick) c.in-Some.ensures.1
    ∙ was_outside me room c.args.steps.now.items c.args.name.now c.requires.joins
    (tested_outside me room c.as_slice.result.now c.args.steps.now.items c.args.name.now
    c.is_in.result c.as_slice.ensures.value c.is_in.ensures c.if-is_in.false)

pub returns-then-channels-lt-MAX_JOINED : goal.returns-then-channels-lt-MAX_JOINED
returns-then-channels-lt-MAX_JOINED c =
    let me = c.args.context.now.me.now in
    let room = c.args.context.now.room.now.room in
    let before = c.args.steps.now.items in
    let out = tested_outside me room c.as_slice.result.now before c.args.name.now c.is_in.result
    c.as_slice.ensures.value c.is_in.ensures c.if-is_in.false in
    let few = tested_few me room c.as_slice-2.result.now before c.channels.result MAX_JOINED
    c.as_slice-2.ensures.value c.channels.ensures c.if-channels-lt-MAX_JOINED.true in
    ok_also c.join_found.result (λ done.
    done
    ∙ ap (λ (name : List ℕ). before ++ joins_found room me (record {
      channel = name;
      key = c.args.given.now;
    }) (row room.channels (key name))) c.in-Some.ensures.1
    ∙ ap (λ acts. before ++ acts) (sym (served_as me room before c.args.name.now c.args.given.now
    c.requires.joins c.in-Some.ensures.0 out few)))
    c.join_found.ensures
