-- What the code does, step by step, is the deed.
use Rattle.std.proofs.Common.{◌≡◌, ℕ, Bool, true, false, Option, Some, Result, IfOk, List, refl}
use Rattle.std.proofs.Common.{sym, ◌∙◌}
use Rattle.std.proofs.Common.{ap, subst, if◌then◌else◌}
use Rattle.irc_line.specs.Messages.{Written, text}
use Rattle.irc_channels.specs.Texts.{cut_words}
use Rattle.irc_merge.specs.Quits.{collision_text}
use Rattle.irc_burst.specs.DeedsMeant.{a_server}
use Rattle.irc_burst_lines.specs.DeedLines.{server_parts}
use Rattle.irc_stage.specs.EffectTold.{Served}
use Rattle.irc_stage.specs.Linked.{is_taken, told_on_all, with_row}
use Rattle.irc_stage.specs.Loops.Handling.{told_to_all, where_it_is}
use Rattle.irc_server.specs.DeedTold.{gain_told, told_by}

-- what comes of a call, put otherwise
pub put_otherwise : {E : Type 0} (result : Result Served E) (one other : Served) → one ≡ other
    → IfOk result (λ s. s ≡ one) → IfOk result (λ s. s ≡ other)
put_otherwise result one other is = subst (λ so. IfOk result (λ s. s ≡ so)) is

-- a line goes on, behind all that was done
pub told_last : {E : Type 0} (arrival : Option ℕ) (line : List ℕ) (parts : Written)
    (mid done : Served) (result : Result Served E) → mid ≡ done → line ≡ text parts
    → IfOk result (λ s. s ≡ told_to_all arrival line mid)
    → IfOk result (λ s. s ≡ told_on_all arrival parts done)
told_last arrival line parts mid done result is written =
    put_otherwise result (told_to_all arrival line mid) (told_on_all arrival parts done)
    (ap (λ l. told_to_all arrival l mid) written ∙ ap (told_on_all arrival parts) is)

-- a server more is told of, where it was taken
pub gains_more : {E : Type 0} (link : ℕ) (uplink name : List ℕ) (distance token : ℕ)
    (info line : List ℕ) (old mid : Served) (taken : Bool) (result : Result Served E)
    → taken ≡ is_taken old.state.routes link name token
    → mid ≡ where_it_is (if taken then with_row link uplink name distance token info old.state
    else old.state) old → taken ≡ true
    → line ≡ text (server_parts mid.state.routes uplink name info)
    → IfOk result (λ s. s ≡ told_to_all (Some link) line mid)
    → IfOk result (λ s. s ≡ told_by link (a_server uplink name distance token info) old)
unfolding told_by
gains_more link uplink name distance token info line old mid taken result is gained taking written =
    let row = with_row link uplink name distance token info old.state in
    let more = where_it_is row old in
    let is_more : mid ≡ more = gained
    ∙ ap (λ b. where_it_is (if b then row else old.state) old) taking in
    λ told. put_otherwise result (gain_told link uplink name info more)
    (if is_taken old.state.routes link name token then gain_told link uplink name info more
    else old)
    (sym (ap (λ b. if b then gain_told link uplink name info more else old) (sym is ∙ taking)))
    (told_last (Some link) line (server_parts more.state.routes uplink name info) mid more result
    is_more (written
    ∙ ap (λ (s : Served). text (server_parts s.state.routes uplink name info)) is_more) told)

pub gains_none : (link : ℕ) (uplink name : List ℕ) (distance token : ℕ) (info : List ℕ)
    (old new : Served) (taken : Bool) → taken ≡ is_taken old.state.routes link name token
    → new ≡ where_it_is (if taken then with_row link uplink name distance token info old.state
    else old.state) old → taken ≡ false → new ≡ told_by link
    (a_server uplink name distance token info) old
unfolding told_by
gains_none link uplink name distance token info old new taken is gained leaving =
    let row = with_row link uplink name distance token info old.state in
    gained ∙ ap (λ b. where_it_is (if b then row else old.state) old) leaving
    ∙ sym (ap (λ b. if b then gain_told link uplink name info (where_it_is row old) else old)
    (sym is ∙ leaving))

pub collision_is_whole : cut_words collision_text ≡ collision_text
unfolding cut_words
collision_is_whole = refl
