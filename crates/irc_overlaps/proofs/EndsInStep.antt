-- By whatever a layer hears, the ends that it has then are those that it had, but for those whose
-- end it has put out.
use Rattle.std.proofs.Common.{◌≡◌, ℕ, Bool, true, false, not, ◌&&◌, ◌||◌, is_some, Option, Some}
use Rattle.std.proofs.Common.{None, List, [], ◌∷◌, ◌++◌, append-nil, map, nat_eq, if◌then◌else◌}
use Rattle.std.proofs.Common.{refl, sym, ap, ◌∙◌}
use Rattle.std.specs.Option.{option_and_then, option_map}
use Rattle.std.proofs.lemmas.List.{append_assoc}
use Rattle.std.proofs.lemmas.List.Folds.{list_any-append}
use Rattle.arrayvec.specs.ArrayVec.{ArrayVec}
use Rattle.irc_line.specs.Messages.{text}
use Rattle.irc_batch.specs.declared.close_reason.CloseReason.{CloseReason}
use Rattle.irc_batch.specs.Batches.{Sent, line_to, end_of, line_on, end_of_link}
use Rattle.irc_channels.specs.declared.flags.Flags.{Flags}
use Rattle.irc_crossing.specs.declared.hearing.Given.{Given}
use Rattle.irc_crossing.specs.declared.hearing.Given.TheVariants.{AsItCame, Changed, LeftOut}
use Rattle.irc_crossing.specs.declared.hearing.Given.TheVariants.{Brings, Kills}
use Rattle.irc_crossing.specs.declared.hearing.Given.TheVariants.{Sets as SetsLine}
use Rattle.irc_link_end.specs.declared.greeting.WayOut.{WayOut}
use Rattle.irc_link_end.specs.declared.greeting.WayOut.TheVariants.{Plain, WithWords, InPiece}
use Rattle.irc_link_end.specs.LinkEnds.{way_out}
use Rattle.irc_pieces.specs.declared.count.Count.{Count}
use Rattle.irc_pieces.specs.declared.count.Mark.{Mark}
use Rattle.irc_pieces.specs.declared.count.Mark.TheVariants.{Set}
use Rattle.irc_pieces.specs.declared.piece_end.Heard.{Heard}
use Rattle.irc_pieces.specs.declared.piece_end.Heard.TheVariants as heard
use Rattle.irc_pieces.specs.Tallies.{count_for}
use Rattle.irc_server.specs.Connected.{ends_link, is_link_ended}
use Rattle.irc_server.specs.declared.event.Event.{Event}
use Rattle.irc_server.specs.declared.event.Event.TheVariants.{LinkLine}
use Rattle.irc_server.specs.declared.event.Event.TheVariants.{LinkDown}
use Rattle.irc_server.specs.declared.event.ServerFault.{ServerFault}
use Rattle.irc_engine.specs.Noting.{far_of}
use Rattle.irc_layer.specs.Asking.{asked_of, tell_parts}
use Rattle.irc_layer.specs.Away.{has_no_place}
use Rattle.irc_layer.specs.Ends.{change_end, end_hearing, with_end, with_log_after}
use Rattle.irc_layer.specs.Ends.{heard_if, Ends}
use Rattle.irc_layer.specs.Holding.{is_held, is_new}
use Rattle.irc_layer.specs.Layers.{asking, brings, by_itself, by_line, by_setting, by_telling}
use Rattle.irc_layer.specs.Layers.{closing, given_at, kill_by, member_by, peer_of, puts_out}
use Rattle.irc_layer.specs.Layers.{putting, raised_at, raises_at, spelled_of, spelling, tells_count}
use Rattle.irc_layer.specs.Layers.{telling, told_of, with_ends, State}
use Rattle.irc_layer.specs.Layers.{BringsBy, Does, Gives, GivesAs, GivesKillBy}
use Rattle.irc_layer.specs.Layers.{GivesKillIf, GivesKills, HearsAll, HearsAs, HearsBy}
use Rattle.irc_layer.specs.Layers.{HearsOther, IsRefusedBy}
use Rattle.irc_layer.specs.Layers.{HearsIf, PassesOrNot, Sets, SetsIf, all_heard, hears_more}
use Rattle.irc_layer.specs.Layers.{not_open, sets}
use Rattle.irc_layer.specs.Putting.{all_put, body, count_at, count_before, count_out, ends_behind}
use Rattle.irc_layer.specs.Putting.{ends_behind_all, is_echo, is_unspoken, line_put, one_put}
use Rattle.irc_layer.specs.Putting.{out_by, own_out, piece_lines, piece_out, with_count_out}
use Rattle.irc_layer.specs.Putting.{with_line_out}

-- ---- booleans

pub stays : (b : Bool) → b ≡ (b && true)
stays true = refl
stays false = refl

pub both : (b x y : Bool) → ((b && not x) && not y) ≡ (b && not (x || y))
both true true y = refl
both true false y = refl
both false x y = refl

none_left : (b : Bool) → false ≡ (b && not (true || false))
none_left true = refl
none_left false = refl

all_left : (b : Bool) → b ≡ (b && not (false || false))
all_left true = refl
all_left false = refl

-- ---- what a layer puts out closes just what its server closes

module _ (n : ℕ) where
  abbrev Closes : List Sent → Type 0
  Closes outs = is_link_ended n outs ≡ false

  count_closes : (link : ℕ) (count : Option Count) → Closes (count_out link count)
  count_closes link None = refl
  count_closes link (Some count) = refl

  alone_closes : (link : ℕ) (end : _) → Closes (count_at link end)
  alone_closes link None = refl
  alone_closes link (Some end) = count_closes link _

  unless_closes : (is : Bool) (outs : List Sent) → Closes outs → Closes (if is then [] else outs)
  unless_closes true outs c = refl
  unless_closes false outs c = c

  if_closes : (is : Bool) (outs : List Sent) → Closes outs → Closes (if is then outs else [])
  if_closes true outs c = c
  if_closes false outs c = refl

  piece_closes : (mark : Option Mark) (link lines : ℕ) (line : List ℕ) (end : _)
      → Closes (piece_out mark link lines line end)
  piece_closes mark link lines line end =
      list_any-append (ends_link n) (count_before mark link lines end) (line_on link line ∷ [])
      ∙ ap (λ b. b || false) (if_closes (nat_eq end.left 0)
      (count_out link (count_for lines mark end.link.pieces.counts))
      (count_closes link (count_for lines mark end.link.pieces.counts)))

  out_closes : (way : WayOut) (cause : _) (link lines : ℕ) (line : List ℕ) (end : _)
      → Closes (out_by way cause link lines line end)
  out_closes Plain cause link lines line end =
      unless_closes (is_unspoken cause (body line)) (line_on link line ∷ []) refl
  out_closes (WithWords offer) cause link lines line end = refl
  out_closes InPiece cause link lines line end =
      unless_closes (is_echo cause link (body line)) (piece_out cause.mark link lines line end)
      (piece_closes cause.mark link lines line end)

  line_closes : (cause : _) (link lines : ℕ) (line : List ℕ) (end : _)
      → Closes (line_put cause link lines line end)
  line_closes cause link lines line None = refl
  line_closes cause link lines line (Some end) =
      unless_closes (has_no_place (body line) end.link) (own_out cause link lines line end)
      (out_closes (way_out end.link) cause link lines line (with_line_out end))

  lines_close : (link : ℕ) (lines : List (List ℕ)) → Closes (map (line_on link) lines)
  lines_close link [] = refl
  lines_close link (line ∷ lines) = lines_close link lines

  -- ---- the ends behind what is put out

  mapped : {A : Type 0} (b : Bool) (change : A → A) (end : Option A)
      → is_some (if b then option_map change end else end) ≡ is_some end
  mapped true change None = refl
  mapped true change (Some x) = refl
  mapped false change end = refl

  changed_there : (link : ℕ) (change : _) (ends : Ends)
      → is_some (change_end link change ends n) ≡ is_some (ends n)
  changed_there link change ends = mapped (nat_eq link n) change (ends n)

  without : {A : Type 0} (b : Bool) (end : Option A)
      → is_some (if b then None else end) ≡ (is_some end && not (b || false))
  without true end = none_left (is_some end)
  without false end = all_left (is_some end)

  without_there : (link : ℕ) (ends : Ends)
      → is_some (with_end link None ends n) ≡ (is_some (ends n) && not (nat_eq link n || false))
  without_there link ends = without (nat_eq link n) (ends n)

  one_there : (cause : _) (sent : Sent) (outs : List Sent) (ends : Ends)
      → is_some (ends_behind cause sent outs ends n)
      ≡ (is_some (ends n) && not (is_link_ended n (one_put cause sent outs ends)))
  one_there cause (line_on link line) outs ends =
      changed_there link _ ends ∙ stays (is_some (ends n))
      ∙ ap (λ b. is_some (ends n) && not b)
      (sym (line_closes cause link (piece_lines link line outs) line (ends link)))
  one_there cause (line_to conn line) outs ends = stays (is_some (ends n))
  one_there cause (end_of conn) outs ends = stays (is_some (ends n))
  one_there cause (end_of_link link reason) outs ends = without_there link ends

  pub all_there : (cause : _) (outs : List Sent) (ends : Ends)
      → is_some (ends_behind_all cause outs ends n)
      ≡ (is_some (ends n) && not (is_link_ended n (all_put cause outs ends)))
  all_there cause [] ends = stays (is_some (ends n))
  all_there cause (sent ∷ outs) ends =
      let next = ends_behind cause sent outs ends in
      let first = one_put cause sent outs ends in
      all_there cause outs next
      ∙ ap (λ b. b && not (is_link_ended n (all_put cause outs next)))
      (one_there cause sent outs ends)
      ∙ both (is_some (ends n)) (is_link_ended n first) (is_link_ended n (all_put cause outs next))
      ∙ ap (λ b. is_some (ends n) && not b)
      (sym (list_any-append (ends_link n) first (all_put cause outs next)))

-- ---- a layer in step

pub record InStep (old new : State) : Type 0 where
  pub more : List Sent
  pub outs_are : new.outs ≡ old.outs ++ more
  pub ends_are : (n : ℕ)
      → is_some (new.layer.ends n) ≡ (is_some (old.layer.ends n) && not (is_link_ended n more))

at_once : (old new : State) → new ≡ old → InStep old new
at_once old new e = record {
  more = [];
  outs_are = ap (λ (state : State). state.outs) e ∙ sym (append-nil old.outs);
  ends_are = λ n. ap (λ (state : State). is_some (state.layer.ends n)) e
      ∙ stays (is_some (old.layer.ends n));
}

in_turn : (old between new : State) → InStep old between → InStep between new → InStep old new
in_turn old between new a b = record {
  more = a.more ++ b.more;
  outs_are = b.outs_are ∙ ap (λ outs. outs ++ b.more) a.outs_are
      ∙ append_assoc old.outs a.more b.more;
  ends_are = λ n. b.ends_are n ∙ ap (λ there. there && not (is_link_ended n b.more)) (a.ends_are n)
      ∙ both (is_some (old.layer.ends n)) (is_link_ended n a.more) (is_link_ended n b.more)
      ∙ ap (λ ended. is_some (old.layer.ends n) && not ended)
      (sym (list_any-append (ends_link n) a.more b.more));
}

-- a state is another by an equation
at_last : (old between new : State) → InStep old between → new ≡ between → InStep old new
at_last old between new a e = in_turn old between new a (at_once between new e)

changed : (link : ℕ) (change : _) (old : State)
    → InStep old (with_ends (change_end link change old.layer.ends) old)
changed link change old = record {
  more = [];
  outs_are = sym (append-nil old.outs);
  ends_are = λ n. changed_there n link change old.layer.ends
      ∙ stays (is_some (old.layer.ends n));
}

-- lines that the layer puts out itself
put : (cause : _) (link : ℕ) (lines : List (List ℕ)) (old : State)
    → InStep old (puts_out cause link lines old)
put cause link lines old = record {
  more = all_put cause (map (line_on link) lines) old.layer.ends;
  outs_are = refl;
  ends_are = λ n. all_there n cause (map (line_on link) lines) old.layer.ends;
}

-- ---- its server is given something

by_all : (cause : _) (outs : List Sent) (old new : State)
    → new.layer.ends ≡ ends_behind_all cause outs old.layer.ends
    → new.outs ≡ old.outs ++ all_put cause outs old.layer.ends → InStep old new
by_all cause outs old new ends_are outs_are = record {
  more = all_put cause outs old.layer.ends;
  outs_are = outs_are;
  ends_are = λ n. ap (λ (ends : Ends). is_some (ends n)) ends_are
      ∙ all_there n cause outs old.layer.ends;
}

refused : (event : Event) (old new : State) (fault : ServerFault)
    → IsRefusedBy event old new fault → InStep old new
refused event old new fault r = record {
  more = [];
  outs_are = r.outs_stay ∙ sym (append-nil old.outs);
  ends_are = λ n. ap (λ (ends : Ends). is_some (ends n)) r.ends_stay
      ∙ stays (is_some (old.layer.ends n));
}

module _ (link : ℕ) where
  line_or_not : (is_taken : Bool) (cause : _) (line : ArrayVec ℕ) (old new : State)
      → PassesOrNot is_taken cause (LinkLine link line) old new → InStep old new
  line_or_not true cause line old new p = by_all cause p.outs old new p.ends_are p.outs_are
  line_or_not false cause line old new p =
      refused (LinkLine link line) old new p.0 p.2

  gives : (begins : Bool) (line : List ℕ) (old new : State) → Gives begins link line old new
      → InStep old new
  gives begins line old new g =
      at_last old _ new (in_turn old g.between _
      (line_or_not g.is_taken (by_line link begins) (record { items = line }) old g.between
      g.passes)
      (changed link _ g.between)) g.new_is

  is_set : (line : List ℕ) (old new : State) → Sets link line old new → InStep old new
  is_set line old new (sets s) =
      by_all (by_setting link) s.outs old new s.ends_are s.outs_are
  is_set line old new (not_open fault _ _ e) = at_once old new e

  set_if : (text : Option (List ℕ)) (old new : State) → SetsIf link text old new → InStep old new
  set_if None old new e = at_once old new e
  set_if (Some text) old new s = is_set (body text) old new s

  does : (mark : Option Mark) (raises begins : Bool) (line : List ℕ) (old new : State)
      → Does mark raises begins link line old new → InStep old new
  does None false begins line old new d = gives begins line old new d
  does None true begins line old new d = set_if (raised_at old.layer.server line) old new d
  does (Some Set) raises begins line old new d = is_set line old new d

  brings_by : (peer : Option (List ℕ)) (begins : Bool) (member : List ℕ × Flags)
      (channel : List ℕ) (old new : State) → BringsBy peer begins link member channel old new
      → InStep old new
  brings_by None begins member channel old new e = at_once old new e
  brings_by (Some peer) begins member channel old new g =
      gives begins (member_by peer member channel) old new g

  kill_if : (peer : Option (List ℕ)) (nick : List ℕ) (old new : State)
      → GivesKillBy peer link nick old new → InStep old new
  kill_if None nick old new e = at_once old new e
  kill_if (Some peer) nick old new g = gives false (kill_by peer nick) old new g

  other_kill : (other : Option (List ℕ)) (old new : State) → GivesKillIf link other old new
      → InStep old new
  other_kill None old new e = at_once old new e
  other_kill (Some nick) old new g = kill_if (far_of old.layer.server link) nick old new g

  kills : (nick : List ℕ) (other : Option (List ℕ)) (old new : State)
      → GivesKills link nick other old new → InStep old new
  kills nick other old new g = in_turn old g.between new
      (kill_if (far_of old.layer.server link) nick old g.between g.first)
      (other_kill other g.between new g.second)

  gives_as : (given : Given) (mark : Option Mark) (raises begins : Bool) (line : List ℕ)
      (old new : State) → GivesAs given mark raises begins link line old new → InStep old new
  gives_as AsItCame mark raises begins line old new g = does mark raises begins line old new g
  gives_as (Changed text) mark raises begins line old new g =
      does mark raises begins (body text.items) old new g
  gives_as LeftOut mark raises begins line old new e = at_once old new e
  gives_as (Kills nick other) mark raises begins line old new g = kills nick other old new g
  gives_as (Brings nick channel op) mark raises begins line old new g =
      brings_by (far_of old.layer.server link) begins
      (nick, record { op = op; voice = false }) channel old new g
  gives_as (SetsLine text) mark raises begins line old new g = is_set (body text.items) old new g

  -- ---- what is asked and told

  asks_if : (is : Bool) (channel : List ℕ) (state : State)
      → InStep state (if is then puts_out by_itself link (text (tell_parts channel) ∷ []) state
      else state)
  asks_if true channel state = put by_itself link (text (tell_parts channel) ∷ []) state
  asks_if false channel state = at_once state state refl

  asks : (channel : Option (List ℕ)) (state : State) → InStep state (asking channel link state)
  asks None state = at_once state state refl
  asks (Some channel) state = asks_if (is_some (state.layer.ends link)) channel state

  spells : (line : Option (List ℕ)) (state : State) → InStep state (spelling link line state)
  spells None state = at_once state state refl
  spells (Some line) state = put by_telling link (line ∷ []) state

  tells : (channel : List ℕ) (state : State) → InStep state (telling link channel state)
  tells channel state = in_turn state (spelling link (spelled_of state.layer.server channel) state)
      (telling link channel state) (spells (spelled_of state.layer.server channel) state)
      (put by_telling link (told_of state.layer.server channel)
      (spelling link (spelled_of state.layer.server channel) state))

  -- ---- a piece

  other_line : (mark : Option Mark) (line : List ℕ) (old new : State)
      → HearsOther mark link line old new → InStep old new
  other_line mark line old new h =
      at_last old _ new (in_turn old h.between _
      (in_turn old (with_ends (change_end link (with_log_after line) old.layer.ends) old) h.between
      (changed link (with_log_after line) old)
      (gives_as (given_at (old.layer.ends link) (peer_of old.layer.server link)
      (is_held (brings old link line)) line) mark (raises_at (old.layer.ends link) line)
      (is_new (brings old link line)) line
      (with_ends (change_end link (with_log_after line) old.layer.ends) old) h.between h.is_given))
      (asks _ h.between)) h.new_is

  by_channel : (channel : Option (List ℕ)) (mark : Option Mark) (line : List ℕ) (old new : State)
      → HearsBy channel mark link line old new → InStep old new
  by_channel None mark line old new h = other_line mark line old new h
  by_channel (Some channel) mark line old new e =
      at_last old (telling link channel old) new (tells channel old) e

  all_lines : (mark : Option Mark) (lines : List (List ℕ)) (old new : State)
      → HearsAll mark link lines old new → InStep old new
  all_lines mark [] old new (all_heard) = at_once old old refl
  all_lines mark (line ∷ lines) old new (hears_more {between} h rest) =
      in_turn old between new
      (by_channel (option_and_then (asked_of line) (old.layer.ends link)) mark line old between h)
      (all_lines mark lines between new rest)

  counts : (state : State) → InStep state (tells_count link state)
  counts state = record {
    more = count_at link (state.layer.ends link);
    outs_are = refl;
    ends_are = λ n. changed_there n link with_count_out state.layer.ends
        ∙ stays (is_some (state.layer.ends n))
        ∙ ap (λ ended. is_some (state.layer.ends n) && not ended)
        (sym (alone_closes n link (state.layer.ends link)));
  }

  -- ---- a link that is closed

  shut_there : (there ended is : Bool)
      → ((there && not (is || false)) && not ended) ≡ (there && not (ended || (is || false)))
  shut_there true true true = refl
  shut_there true true false = refl
  shut_there true false true = refl
  shut_there true false false = refl
  shut_there false ended is = refl

  shuts : (reason : CloseReason) (old between new : State) (is_taken : Bool)
      → PassesOrNot is_taken by_itself (LinkDown link) old between
      → new ≡ putting (closing is_taken link reason) between → InStep old new
  shuts reason old between new false p e =
      at_last old between new (refused (LinkDown link) old between p.0 p.2)
      (e ∙ ap (λ outs. record between { outs = outs }) (append-nil between.outs))
  shuts reason old between new true p e = at_last old closed new (record {
    more = outs ++ end_of_link link reason ∷ [];
    outs_are = ap (λ v. v ++ end_of_link link reason ∷ []) p.outs_are
        ∙ append_assoc old.outs outs (end_of_link link reason ∷ []);
    ends_are = λ n. ap (λ (ends : Ends). is_some (ends n)) p.ends_are
        ∙ all_there n by_itself p.outs (with_end link None old.layer.ends)
        ∙ ap (λ there. there && not (is_link_ended n outs)) (without_there n link old.layer.ends)
        ∙ shut_there (is_some (old.layer.ends n)) (is_link_ended n outs) (nat_eq link n)
        ∙ ap (λ ended. is_some (old.layer.ends n) && not ended)
        (sym (list_any-append (ends_link n) outs (end_of_link link reason ∷ [])));
  }) e
    where
      outs : List Sent
      outs = all_put by_itself p.outs (with_end link None old.layer.ends)

      closed : State
      closed = putting (end_of_link link reason ∷ []) between

  -- ---- a line

  hears_as : (heard : Heard) (old new : State) → HearsAs heard link old new → InStep old new
  hears_as heard.Nothing old new e = at_once old new e
  hears_as (heard.Piece piece) old new h = at_last old (tells_count link h.between) new
      (in_turn old h.between (tells_count link h.between)
      (all_lines piece.mark piece.lines old h.between h.heard) (counts h.between)) h.new_is
  hears_as (heard.Fault reason) old new h =
      shuts reason old h.between new h.is_taken h.passes h.new_is

  pub hears_if : (end : _) (line : List ℕ) (old new : State)
      → HearsIf end link line old new → InStep old new
  hears_if end line old new h =
      in_turn old (with_ends (change_end link (end_hearing line) old.layer.ends) old) new
      (changed link (end_hearing line) old)
      (hears_as (heard_if line end)
      (with_ends (change_end link (end_hearing line) old.layer.ends) old) new h)
