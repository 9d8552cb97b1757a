use Rattle.std.proofs.Common.{ℕ, Some, None, List, ◌≡◌, refl, ◌∙◌, ap, append-nil, map, sym}
use Rattle.std.proofs.Common.{rules, if◌then◌else◌}
use Rattle.irc_names.specs.Fold.{key}
use Rattle.irc_names.specs.Tables.{row}
use Rattle.irc_tables.specs.RowViews.{row_entry}
use Rattle.irc_room.specs.effect.Target.TheVariants.{Channel}
use Rattle.irc_stage.specs.Loops.Around.{machine_in}
use Rattle.irc_stage.specs.Loops.Hearing.{others_of}
use Rattle.irc_stage.specs.Loops.Listening.{conns_at, conns_in, IsSaidIn}
use Rattle.irc_stage.specs.Lemmas.Outcomes.{on_ok}
use Rattle.irc_stage.proofs.Conns.{values_of}
use Rattle.irc_stage.proofs.EffectsShown.{passed_on, put_to_each, said_heard, unheard}
use Rattle.irc_stage.proofs.Hearing.{no_rows}
use Rattle.irc_stage.proofs.listeners.Listeners.pass_on.Goals as goal

pub returns-then-is_empty : goal.returns-then-is_empty
returns-then-is_empty c =
    let machine = machine_in c.args.around in
    let by_nick = c.args.around.clients.now.by_nick in
    let lists = c.args.self.now.lists in
    let well = c.own.ensures.well_formed in
    let channel = c.in-Say-default-default-Channel-default.channel in
    let said : IsSaidIn channel c.args.effect.now = search rules in
    let none =
    sym (c.of-rows.ensures
    ∙ ap (λ name. conns_in (row lists (key name))) c.as_bytes.ensures.value)
    ∙ ap (map row_entry)
    (no_rows c.of-rows.result.now c.is_empty.result c.is_empty.ensures c.if-is_empty.true) in
    said_heard machine by_nick c.requires.lent.indexed well c.args.effect.now
    (λ target. target ≡ Channel channel) said c.requires.lent.fit None
    (λ viewer conn sees at home. absurd (unheard machine by_nick c.requires.lent.indexed well
    c.args.effect.now channel said lists c.requires.so none (key viewer.nick) conn sees at))
    _ refl c.args.out.now.outs _ (sym (append-nil c.args.out.now.outs))

pub returns-then-write_named : goal.returns-then-write_named
returns-then-write_named c =
    let machine = machine_in c.args.around in
    let by_nick = c.args.around.clients.now.by_nick in
    let well = c.own.ensures.well_formed in
    let lists = c.args.self.now.lists in
    let channel = c.in-Say-default-default-Channel-default.channel in
    let said : IsSaidIn channel c.args.effect.now = search rules in
    let line = c.write_named.new.line.items in
    let conns = others_of c.conn.result (map (λ row. row.value) c.of-rows.result.now) in
    on_ok c.tell_others.result _ _
    (λ is. said_heard machine by_nick c.requires.lent.indexed well c.args.effect.now
    (λ target. target ≡ Channel channel) said c.requires.lent.fit (Some line)
    (λ viewer conn sees at home.
    c.write_named.ensures c.requires.lent.named viewer (home ∙ sym c.requires.lent.own)
    ∙ ap (λ b. if b then Some line else None) c.if-write_named.true)
    conns
    (ap (others_of c.conn.result)
    (values_of c.of-rows.result.now
    ∙ ap (map (λ (e : List ℕ × ℕ). e.1))
    (c.of-rows.ensures
    ∙ ap (λ name. conns_in (row lists (key name))) c.as_bytes.ensures.value))
    ∙ ap (λ o. others_of o (conns_at lists (key channel))) c.conn.ensures
    ∙ passed_on machine by_nick c.requires.lent.indexed well c.args.effect.now c.args.origin
    c.requires.spoken channel said lists c.requires.so)
    c.args.out.now.outs _ (put_to_each c.args.out.now c.tell_others.new.out line conns is))
    c.tell_others.ensures

pub returns : goal.returns
returns c =
    let machine = machine_in c.args.around in
    let channel = c.in-Say-default-default-Channel-default.channel in
    let said : IsSaidIn channel c.args.effect.now = search rules in
    let line = c.write_named.new.line.items in
    said_heard machine c.args.around.clients.now.by_nick c.requires.lent.indexed
    c.own.ensures.well_formed c.args.effect.now
    (λ target. target ≡ Channel channel) said c.requires.lent.fit None
    (λ viewer conn sees at home.
    c.write_named.ensures c.requires.lent.named viewer (home ∙ sym c.requires.lent.own)
    ∙ ap (λ b. if b then Some line else None) c.if-write_named.false)
    _ refl c.args.out.now.outs _ (sym (append-nil c.args.out.now.outs))
