-- What the steps of reading a script come to.
use Rattle.std.proofs.Common.{◌≡◌, ℕ, ◌+◌, ◌-◌, ◌≤◌, ◌<◌, Bool, not, cond, is_some, nat_lt, Option}
use Rattle.std.proofs.Common.{Some, None, List, [], ◌∷◌, ◌++◌, length, take, drop, get_or, ap, sym}
use Rattle.std.proofs.Common.{refl, ◌∙◌, Bor, position, Ok, Err}
use Rattle.std.specs.List.{filter_map, cons_option, position_or_len, slice_split}
use Rattle.std.specs.Option.{option_to_list}
use Rattle.std.proofs.lemmas.List.{length-map, map-append, take_more, drop_more, drop-map}
use Rattle.std.proofs.lemmas.List.{take_rest}
use Rattle.std.proofs.Math.ListN.{drop_of_length-le}
use Rattle.std.proofs.lemmas.List.Elements.{filter_map-append}
use Rattle.irc_script.specs.Scripts.{Request, ScriptAsked, is_line_feed, ended, another_server}
use Rattle.irc_script.specs.Scripts.{servers_behind, servers_of, behind_servers, judged}
use Rattle.irc_script.specs.Scripts.{is_bad_line, request_of, script_read}
use Rattle.irc_script.specs.ScriptViews.{lines_now}

found_alone : (found : Option Request) → cons_option found [] ≡ option_to_list found
found_alone None = refl
found_alone (Some request) = refl

-- one line more
pub more_found : (f : List ℕ → Option Request) (lines : List (Bor (List ℕ))) (i : ℕ)
    (d : Bor (List ℕ)) → i < length lines → filter_map f (lines_now (take (i + 1) lines))
    ≡ filter_map f (lines_now (take i lines)) ++ option_to_list (f (get_or lines i d).now)
more_found f lines i d within =
    let now = λ (line : Bor (List ℕ)). line.now in
    let line = get_or lines i d in
    ap (λ ls. filter_map f (lines_now ls)) (take_more lines i d within)
    ∙ ap (filter_map f) (map-append now (take i lines) (line ∷ []))
    ∙ filter_map-append f (lines_now (take i lines)) (line.now ∷ [])
    ∙ ap (λ found. filter_map f (lines_now (take i lines)) ++ found) (found_alone (f line.now))

place_now : (p : List ℕ → Bool) (lines : List (Bor (List ℕ)))
    → position_or_len (λ line. p line.now) lines ≡ position_or_len p (lines_now lines)
place_now p [] = refl
place_now p (line ∷ lines) = ap (λ n. cond (not (p line.now)) (1 + n) 0) (place_now p lines)

-- a place among the code's lines is one among their bytes
pub position_now : (p : List ℕ → Bool) (lines : List (Bor (List ℕ)))
    → position (λ line. p line.now) lines ≡ position p (lines_now lines)
position_now p lines =
    let same = place_now p lines in
    let count = length-map lines (λ (line : Bor (List ℕ)). line.now) in
    ap (λ n. cond (nat_lt n (length lines)) (Some n) None) same
    ∙ ap (λ count. cond (nat_lt (position_or_len p (lines_now lines)) count)
    (Some (position_or_len p (lines_now lines))) None) (sym count)

-- what is behind the lines that name servers
pub behind_now : (n : ℕ) (servers : List (List ℕ)) (lines : List (Bor (List ℕ)))
    → n ≡ length servers → lines_now (take (length lines - n) (drop n lines))
    ≡ drop (length servers) (lines_now lines)
behind_now n servers lines e =
    ap lines_now (take_rest lines n) ∙ ap (λ m. lines_now (drop m lines)) e
    ∙ sym (drop-map (λ (line : Bor (List ℕ)). line.now) (length servers) lines)

-- the steps from the text to the lines behind those of the servers
pub read_behind : (text : List ℕ) (pieces lines rest servers : List (List ℕ))
    → pieces ≡ slice_split is_line_feed text → lines ≡ ended pieces → servers ≡ servers_of lines
    → rest ≡ drop (length servers) lines → script_read text ≡ behind_servers servers rest
unfolding script_read
read_behind text pieces lines rest servers e₁ e₂ e₃ e₄ = rw e₄ (rw e₃ (rw e₂ (rw e₁ refl)))

-- some line is bad
pub bad_behind : (servers rest : List (List ℕ)) (bad number : ℕ) → position is_bad_line rest
    ≡ Some bad → number ≡ length servers + bad + 1 → behind_servers servers rest ≡ Err number
bad_behind servers rest bad number found e =
    ap (judged servers rest) found ∙ ap (λ n. Err n) (sym e)

abbrev pub with_requests : List (List ℕ) → List Request → ScriptAsked
with_requests servers requests = record { servers = servers; requests = requests }

-- no line is bad
pub good_behind : (servers rest : List (List ℕ)) (asked : ScriptAsked)
    → position is_bad_line rest ≡ None → asked ≡ with_requests servers (filter_map request_of rest)
    → behind_servers servers rest ≡ Ok asked
good_behind servers rest asked found e = ap (judged servers rest) found ∙ ap (λ a. Ok a) (sym e)

-- a line that names another server
pub goes_on : (named : List (List ℕ)) (name line : List ℕ) (lines : List (List ℕ))
    → Some name ≡ another_server named line
    → servers_behind named (line ∷ lines) ≡ servers_behind (named ++ name ∷ []) lines
unfolding servers_behind
goes_on named name line lines e =
    ap (λ (found : Option (List ℕ)). cond (is_some found)
    (servers_behind (named ++ option_to_list found) lines) named) (sym e)

-- a line that names none
pub stops : (named : List (List ℕ)) (line : List ℕ) (lines : List (List ℕ))
    → None ≡ another_server named line → servers_behind named (line ∷ lines) ≡ named
unfolding servers_behind
stops named line lines e = ap (λ (found : Option (List ℕ)). cond (is_some found)
    (servers_behind (named ++ option_to_list found) lines) named) (sym e)

-- the line at a place, and those behind it
lines_at : (lines : List (Bor (List ℕ))) (i : ℕ) (d : Bor (List ℕ)) → i < length lines
    → lines_now (drop i lines) ≡ (get_or lines i d).now ∷ lines_now (drop (i + 1) lines)
lines_at lines i d within = ap lines_now (drop_more lines i d within)

-- the same of the code's lines
pub one_server_more : (servers named : List (List ℕ)) (found : Option (List ℕ))
    (name : List ℕ) (lines : List (Bor (List ℕ))) (i : ℕ) (d : Bor (List ℕ)) → i < length lines
    → servers ≡ named → found ≡ another_server servers (get_or lines i d).now → found ≡ Some name
    → servers_behind named (lines_now (drop i lines)) ≡ servers_behind (named ++ name ∷ [])
    (lines_now (drop (i + 1) lines))
one_server_more servers named found name lines i d within same e is =
    ap (servers_behind named) (lines_at lines i d within)
    ∙ goes_on named name (get_or lines i d).now (lines_now (drop (i + 1) lines))
    (sym is ∙ e ∙ ap (λ s. another_server s (get_or lines i d).now) same)

pub no_server_more : (servers named : List (List ℕ)) (found : Option (List ℕ))
    (lines : List (Bor (List ℕ))) (i : ℕ) (d : Bor (List ℕ)) → i < length lines
    → servers ≡ named → found ≡ another_server servers (get_or lines i d).now → found ≡ None
    → servers_behind named (lines_now (drop i lines)) ≡ named
no_server_more servers named found lines i d within same e is =
    ap (servers_behind named) (lines_at lines i d within)
    ∙ stops named (get_or lines i d).now (lines_now (drop (i + 1) lines))
    (sym is ∙ e ∙ ap (λ s. another_server s (get_or lines i d).now) same)

-- no line is left
pub all_named : (named : List (List ℕ)) (lines : List (Bor (List ℕ))) (i : ℕ) → length lines ≤ i
    → servers_behind named (lines_now (drop i lines)) ≡ named
unfolding servers_behind
all_named named lines i all =
    ap (λ ls. servers_behind named (lines_now ls)) (drop_of_length-le lines all)
