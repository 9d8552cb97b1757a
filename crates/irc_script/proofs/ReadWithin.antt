-- What a script asks for is within the limits.
use Rattle.std.proofs.Common.{◌≡◌, ℕ, Bool, true, false, ◌&&◌, Option, Some, None, Result, Ok, List}
use Rattle.std.proofs.Common.{[], ◌∷◌, ◌++◌, map, codes, drop, length, position, ap, sym, subst}
use Rattle.std.proofs.Common.{refl, if◌then◌else◌}
use Rattle.std.specs.List.{AllByRecursion, cons_option, filter_map}
use Rattle.std.specs.Option.{option_and_then, option_map}
use Rattle.irc_line.specs.Lines.{IsLine, lines}
use Rattle.irc_names.specs.Names.{is_host, is_server}
use Rattle.irc_script.specs.Moves.{gives_line}
use Rattle.irc_decimals.specs.Numbers.{written_number}
use Rattle.irc_script.specs.Scripts.{Request, connects, says, goes, links, cuts, delivers, takes}
use Rattle.irc_script.specs.Scripts.{settles, ScriptAsked, Cut, Pair, bytes_from, bytes_in}
use Rattle.irc_script.specs.Scripts.{connect_in, cut_at_space, is_bad_line, is_word, judged}
use Rattle.irc_script.specs.Scripts.{pair_of, request_in, request_of, say_in, script_lines}
use Rattle.irc_script.specs.Scripts.{script_read, servers_of}
use Rattle.irc_script.proofs.LinesSaid.{each_is_line, line_is_carried}
use Rattle.irc_script.proofs.StaysSound.{IsMoveWithin, IsRequestWithin}

all_said : (client : ℕ) (said : List (List ℕ)) → AllByRecursion IsLine said
    → AllByRecursion IsMoveWithin (map (gives_line client) said)
all_said client [] all = tt
all_said client (line ∷ said) all = (line_is_carried line all.0, all_said client said all.1)

-- ---- a host is one

-- this is no request to connect but to such a host
abbrev IsHosted : Option Request → Type 0
IsHosted found = (server host : List ℕ) → found ≡ Some (connects server host) → is_host host ≡ true

if_hosted : (test : Bool) (one other : Option Request) → IsHosted one → IsHosted other
    → IsHosted (if test then one else other)
if_hosted true one other p q = p
if_hosted false one other p q = q

none_hosted : IsHosted None
none_hosted server host is = cc is

connect_hosted : (words : Cut) → IsHosted (connect_in words)
connect_hosted words server host = by (is_server words.before) (is_host words.behind) refl
  where
    by : (a b : Bool) → is_host words.behind ≡ b
        → (if a && b then Some (connects words.before words.behind) else None)
        ≡ Some (connects server host) → is_host host ≡ true
    by true true host_so is = subst (λ h. is_host h ≡ true) (cc is) host_so
    by true false host_so is = cc is
    by false b host_so is = cc is

found_hosted : (cut : Option Cut) → IsHosted (option_and_then connect_in cut)
found_hosted None = none_hosted
found_hosted (Some words) = connect_hosted words

number_hosted : (make : ℕ → Request) → ((n : ℕ) → IsHosted (Some (make n))) → (found : Option ℕ)
    → IsHosted (option_map make found)
number_hosted make so None = none_hosted
number_hosted make so (Some n) = so n

pair_hosted : (make : Pair → Request) → ((pair : Pair) → IsHosted (Some (make pair)))
    → (found : Option Pair) → IsHosted (option_map make found)
pair_hosted make so None = none_hosted
pair_hosted make so (Some pair) = so pair

say_hosted : (cut : Option Cut) → IsHosted (option_and_then say_in cut)
say_hosted None = none_hosted
say_hosted (Some words) = number_hosted (λ client. says client words.behind)
    (λ n server host is. cc is) (written_number words.before)

counted_hosted : (from : List ℕ) (cut : Option Cut)
    → IsHosted (option_and_then (bytes_from from) cut)
counted_hosted from None = none_hosted
counted_hosted from (Some words) =
    if_hosted (is_server from && is_server words.before) _ _
    (number_hosted (λ count. takes from words.before count) (λ n server host is. cc is)
    (written_number words.behind)) none_hosted

bytes_hosted : (cut : Option Cut) → IsHosted (option_and_then bytes_in cut)
bytes_hosted None = none_hosted
bytes_hosted (Some words) = counted_hosted words.before (cut_at_space words.behind)

request_hosted : (line : Cut) → IsHosted (request_in line)
request_hosted line =
    if_hosted (is_word line.before (codes "connect")) _ _ (found_hosted (cut_at_space line.behind))
    (if_hosted (is_word line.before (codes "say")) _ _ (say_hosted (cut_at_space line.behind))
    (if_hosted (is_word line.before (codes "gone")) _ _
    (number_hosted goes (λ n server host is. cc is) (written_number line.behind))
    (if_hosted (is_word line.before (codes "link")) _ _ (pair_hosted
    (λ pair. links pair.near pair.far) (λ pair server host is. cc is) (pair_of line.behind))
    (if_hosted (is_word line.before (codes "cut")) _ _ (pair_hosted
    (λ pair. cuts pair.near pair.far) (λ pair server host is. cc is) (pair_of line.behind))
    (if_hosted (is_word line.before (codes "deliver")) _ _
    (pair_hosted (λ pair. delivers pair.near pair.far) (λ pair server host is. cc is)
    (pair_of line.behind))
    (if_hosted (is_word line.before (codes "bytes")) _ _ (bytes_hosted (cut_at_space line.behind))
    none_hosted))))))

line_hosted : (line : List ℕ) → IsHosted (request_of line)
unfolding request_of
line_hosted line =
    if_hosted (is_word line (codes "settle")) _ _ (λ server host is. cc is) (by (cut_at_space line))
  where
    by : (cut : Option Cut) → IsHosted (option_and_then request_in cut)
    by None = none_hosted
    by (Some words) = request_hosted words

-- ---- each request

request_within : (found : Option Request) → IsHosted found → (r : Request) → found ≡ Some r
    → IsRequestWithin r
request_within found hosted (connects server host) is = (hosted server host is, tt)
request_within found hosted (says client rest) is =
    all_said client (lines (rest ++ 0x0A ∷ [])) (each_is_line (rest ++ 0x0A ∷ []))
request_within found hosted (goes client) is = (tt, tt)
request_within found hosted (links near far) is = (tt, tt)
request_within found hosted (cuts near far) is = (tt, tt)
request_within found hosted (delivers from to) is = (tt, tt)
request_within found hosted (takes from to count) is = (tt, tt)
request_within found hosted settles is = (tt, tt)

requests_within : (rest : List (List ℕ))
    → AllByRecursion IsRequestWithin (filter_map request_of rest)
requests_within [] = tt
requests_within (line ∷ rest) = by (request_of line) refl (requests_within rest)
  where
    by : (o : Option Request) → request_of line ≡ o
        → AllByRecursion IsRequestWithin (filter_map request_of rest)
        → AllByRecursion IsRequestWithin (filter_map request_of (line ∷ rest))
    by None is all =
        subst (λ o. AllByRecursion IsRequestWithin (cons_option o (filter_map request_of rest)))
        (sym is) all
    by (Some r) is all =
        subst (λ o. AllByRecursion IsRequestWithin (cons_option o (filter_map request_of rest)))
        (sym is)
        (request_within (request_of line) (line_hosted line) r is, all)

-- ---- a script that was read

pub record IsReadOf (script : List (List ℕ)) (asked : ScriptAsked) : Type 0 where
  pub rest : List (List ℕ)
  pub servers : asked.servers ≡ servers_of script
  pub requests : asked.requests ≡ filter_map request_of rest

read_of : (text : List ℕ) (asked : ScriptAsked) → script_read text ≡ Ok asked
    → IsReadOf (script_lines text) asked
unfolding script_read
read_of text asked is = by (position is_bad_line rest) is
  where
    rest : List (List ℕ)
    rest = drop (length (servers_of (script_lines text))) (script_lines text)

    one_result : (a b : ScriptAsked) → ◌≡◌ {A = Result ScriptAsked ℕ} (Ok a) (Ok b) → a ≡ b
    one_result a b e = cc e

    by : (bad : Option ℕ) → judged (servers_of (script_lines text)) rest bad ≡ Ok asked
        → IsReadOf (script_lines text) asked
    by (Some bad) e = absurd (cc e)
    by None e =
        let same = one_result (record {
          servers = servers_of (script_lines text);
          requests = filter_map request_of rest;
        }) asked e in
        record {
          rest = rest;
          servers = sym (ap (λ (a : ScriptAsked). a.servers) same);
          requests = sym (ap (λ (a : ScriptAsked). a.requests) same);
        }

pub read_within : (text : List ℕ) (asked : ScriptAsked) → script_read text ≡ Ok asked
    → AllByRecursion IsRequestWithin asked.requests
read_within text asked is =
    let read = read_of text asked is in
    subst (AllByRecursion IsRequestWithin) (sym read.requests) (requests_within read.rest)

pub servers_read : (text : List ℕ) (asked : ScriptAsked) → script_read text ≡ Ok asked
    → asked.servers ≡ servers_of (script_lines text)
servers_read text asked is = (read_of text asked is).servers

-- ---- those in front, and those behind

pub front_within : {X : Type 0} (P : X → Type 0) (front left : List X)
    → AllByRecursion P (front ++ left) → AllByRecursion P front
front_within P [] left all = tt
front_within P (x ∷ front) left all = (all.0, front_within P front left all.1)

pub left_within : {X : Type 0} (P : X → Type 0) (front left : List X)
    → AllByRecursion P (front ++ left) → AllByRecursion P left
left_within P [] left all = all
left_within P (x ∷ front) left all = left_within P front left all.1
