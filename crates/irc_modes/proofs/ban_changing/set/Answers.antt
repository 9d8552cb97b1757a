use Rattle.std.proofs.Common.{◌≡◌, ◌<◌, cond, length, ◌∙◌, ap, arith}
use Rattle.std.specs.Prelude.{vec_len, vec_capacity}
use Rattle.std.specs.List.{insert}
use Rattle.irc_modes.specs.Bans.{rises}
use Rattle.irc_modes.specs.Modes.{with_ban}
use Rattle.irc_modes.specs.Lemmas.BanPlaces.{place, put_over, with_rises}
use Rattle.irc_modes.proofs.BanRoom.{room_once_out}
use Rattle.irc_modes.proofs.ban_changing.set.Goals as goal

-- there is room for it once the one that is the same is out
has_room : (c : goal.After-insert) → vec_len c.take.new.bans < vec_capacity c.take.new.bans
has_room c =
    let bans = c.args.bans.now in
    let left = room_once_out c.args.mask bans.items (vec_capacity bans)
    (vec_capacity c.take.new.bans)
    (λ none. let room = c.requires.room none in omega (arith, room, bans.ok.0))
    (omega (arith, bans.ok.0, bans.ok.1)) c.take.ensures.capacity in
    omega (arith, left, c.take.new.bans.ok.0, ap length c.take.ensures.value)

is_with : (c : goal.After-insert)
    → c.insert.new.self.items ≡ with_ban c.args.mask c.args.bans.now.items
is_with c =
    let mask = c.args.mask in
    let bans = c.take.new.bans.items in
    c.insert.ensures.items
    ∙ ap (λ found. cond found (insert bans c.place_of-place.result mask) bans)
    (c.insert.ensures.succeeds (has_room c))
    ∙ ap (λ i. insert bans i mask)
    (c.place_of-place.ensures.value ∙ ap (place mask) c.deref.ensures.value)
    ∙ ap (λ bans. insert bans (place mask bans) mask) c.take.ensures.value
    ∙ (put_over mask c.args.bans.now.items c.requires.ordered).is_insert

pub returns-clause-value : goal.returns-clause-value
returns-clause-value c = is_with c

pub returns-clause-ordered : goal.returns-clause-ordered
returns-clause-ordered c = ap rises (is_with c)
    ∙ with_rises c.args.mask c.args.bans.now.items c.requires.ordered
