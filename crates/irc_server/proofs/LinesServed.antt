-- What the code does of what happens by a link is what it does to the server.
use Rattle.std.proofs.Common.{◌≡◌, ℕ, Bool, true, false, cond, is_none, is_some, Option, Some, None}
use Rattle.std.proofs.Common.{List, [], ◌∷◌, ◌++◌, refl, sym, ◌∙◌, ap, subst, append-nil}
use Rattle.std.proofs.Common.{append_assoc, map, not, unwrap_or}
use Rattle.std.proofs.lemmas.List.{map-append}
use Rattle.std.proofs.lemmas.Simd.{map-map}
use Rattle.std.specs.Borrow.{Bor}
use Rattle.std.specs.Cmp.{nat_cmp_total}
use Rattle.std.specs.FinMap.{get, insert, get-insert}
use Rattle.std.specs.Option.{option_copied, option_map_or}
use Rattle.irc_line.specs.Messages.{text}
use Rattle.irc_batch.specs.Batches.{line_on}
use Rattle.irc_link_words.specs.GreetingLines.{greeting, pass_parts}
use Rattle.irc_burst.specs.DeedsMeant.{a_server}
use Rattle.irc_burst_lines.specs.BurstLines.{burst_parts}
use Rattle.irc_stage.specs.Ways.{IsMetEnd}
use Rattle.irc_stage.specs.View.{End, View, password_for}
use Rattle.irc_stage.specs.EffectTold.{Served, with_sent}
use Rattle.irc_stage.specs.Linked.{with_far}
use Rattle.irc_stage.specs.Lemmas.Numbers.{same_number-refl}
use Rattle.irc_stage.specs.Loops.Handling.{told_on, where_it_is}
use Rattle.irc_server.specs.DeedTold.{told_by}
use Rattle.irc_server.specs.LinkServed.{on_link, opening_parts, owed_by, owes}
use Rattle.irc_server.specs.Loops.Serving.{greeting_of, lines_told, met_in}

-- a link whose other end has named itself counts
pub met_now : (view : View) (link : ℕ) (name : List ℕ) → is_some (get view.ends link) ≡ true
    → IsMetEnd (get (with_far link name view).ends link)
met_now view link name = by (get view.ends link)
  where
    by : (o : Option End) → is_some o ≡ true
        → IsMetEnd (get (option_map_or (λ (end : End). record view {
          ends = insert view.ends link
              (record end { far = Some name });
        }) o view).ends link)
    by None there = cc there
    by (Some end) there =
        let named = record end { far = Some name } in
        subst IsMetEnd
        (sym (get-insert nat_cmp_total view.ends link named link
        ∙ ap (λ b. cond b (Some named) (get view.ends link)) (same_number-refl link))) refl

-- the two lines with which an end begins
pub begun : (link : ℕ) (name pass greeted : List ℕ) (s one new : Served)
    → pass ≡ text (pass_parts (unwrap_or (password_for s.state name) []))
    → greeted ≡ text (greeting s.state.routes) → one ≡ told_on link pass s
    → new ≡ told_on link greeted one
    → new ≡ with_sent (on_link link (opening_parts s.state name)) s
begun link name pass greeted s one new pass_is greeting_is first put =
    let password = text (pass_parts (unwrap_or (password_for s.state name) [])) in
    let server = text (greeting s.state.routes) in
    put ∙ ap (told_on link greeted) (first ∙ ap (λ line. told_on link line s) pass_is)
    ∙ ap (λ line. told_on link line (told_on link password s)) greeting_is
    ∙ ap (λ out. record s { out = out })
    (append_assoc s.out (line_on link password ∷ []) (line_on link server ∷ []))

-- an end that calls nobody is called
pub is_called : {X : Type 0} (found : Option (Bor X)) (starts : Option X) (called : Bool)
    → option_copied found ≡ starts → is_some found ≡ not called → called ≡ is_none starts
is_called None starts true is called_is = ap is_none is
is_called None starts false is called_is = absurd (cc called_is)
is_called (Some found) starts true is called_is = absurd (cc called_is)
is_called (Some found) starts false is called_is = ap is_none is

-- what an end says first, where it was called, and then what its side holds, is what it owes
pub answered : (link : ℕ) (name : List ℕ) (end : End) (called : Bool) (lines : List (List ℕ))
    (s greeted new : Served) → get s.state.ends link ≡ Some end → called ≡ is_none end.starts
    → greeted ≡ with_sent (on_link link (greeting_of s.state called name)) s
    → lines ≡ map text (burst_parts s.state.room s.state.routes link)
    → new ≡ lines_told link lines greeted
    → new ≡ with_sent (on_link link (owes s.state link name)) s
answered link name end called lines s greeted new there called_is hello written put =
    let burst = burst_parts s.state.room s.state.routes link in
    let first = greeting_of s.state (is_none end.starts) name in
    put ∙ ap (λ ls. lines_told link ls greeted) written
    ∙ ap (λ sent. with_sent sent greeted) (map-map (line_on link) text burst)
    ∙ ap (with_sent (on_link link burst))
    (hello ∙ ap (λ b. with_sent (on_link link (greeting_of s.state b name)) s) called_is)
    ∙ ap (λ out. record s { out = out })
    (append_assoc s.out (on_link link first) (on_link link burst)
    ∙ ap (λ sent. s.out ++ sent)
    (sym (map-append (λ parts. line_on link (text parts)) first burst)))
    ∙ ap (λ (o : Option End). with_sent
    (on_link link (option_map_or (owed_by s.state link name) o [])) s) (sym there)

-- where no link is open nothing is owed
pub nothing_owed : (link : ℕ) (name : List ℕ) (s : Served) → get s.state.ends link ≡ None
    → s ≡ with_sent (on_link link (owes s.state link name)) s
nothing_owed link name s none =
    ap (λ out. record s { out = out }) (sym (append-nil s.out))
    ∙ ap (λ (o : Option End). with_sent
    (on_link link (option_map_or (owed_by s.state link name) o [])) s) (sym none)

-- the server at the other end is answered, and told of
pub met_served : (link : ℕ) (name own info : List ℕ) (s answered far new : Served)
    → answered ≡ with_sent (on_link link (owes s.state link name)) s
    → far ≡ where_it_is (with_far link name answered.state) answered
    → own ≡ s.state.routes.name
    → new ≡ told_by link (a_server own name 1 1 info) far → new ≡ met_in link name info s
met_served link name own info s answered far new owed named own_is told =
    told ∙ ap (λ own. told_by link (a_server own name 1 1 info) far) own_is
    ∙ ap (told_by link (a_server s.state.routes.name name 1 1 info))
    (named ∙ ap (λ (t : Served). where_it_is (with_far link name t.state) t) owed)
