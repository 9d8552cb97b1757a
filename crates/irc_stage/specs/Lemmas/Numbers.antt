-- Clients by number: what they answer after a change, and what the code's map has.
use Rattle.std.proofs.Common.{◌≡◌, ℕ, Bool, true, false, cond, T, Some, None, List, [], ◌∷◌, refl}
use Rattle.std.proofs.Common.{sym, ◌∙◌, ap, map, option_map}
use Rattle.std.specs.Ordering.{nat_cmp, eq_by_cmp}
use Rattle.std.specs.Cmp.{nat_cmp_total, eq_by_cmp_equiv, Equal-is}
use Rattle.std.specs.BTreeMap.{BTreeMap, UpdatesBy, get as number_in}
use Rattle.std.specs.FinMap.Entries.{below_all}
use Rattle.irc_tables.specs.Lemmas.OrderedEntries.{above-is, find-above}
use Rattle.std.specs.FinMap.{FinMap, get, insert, remove, entries, find, get-from_entries}
use Rattle.std.specs.FinMap.{get-entries, get-insert, get-remove, same_map, nat_cmp-IsAntisymmetric}
use Rattle.irc_names.specs.Lemmas.PlainFacts.{is_true}
use Rattle.irc_stage.specs.declared.clients.Client.{Client}
use Rattle.irc_stage.specs.RoomMachine.{Clients, each_client}
use Rattle.irc_stage.specs.Loops.Parts.{numbered}
use Rattle.irc_tables.specs.Lemmas.OrderedMaps.{get-mapped, put-mapped, taken-mapped}

-- whether two numbers are one
abbrev pub same_number : ℕ → ℕ → Bool
same_number = eq_by_cmp nat_cmp

pub one_number : (q conn : ℕ) → same_number q conn ≡ true → q ≡ conn
one_number q conn same = nat_cmp-IsAntisymmetric q conn ((Equal-is (nat_cmp q conn)).0 same)

pub same_number-refl : (q : ℕ) → same_number q q ≡ true
same_number-refl q = (eq_by_cmp_equiv nat_cmp_total).refl q

pub same_number-is : (q conn : ℕ) → q ≡ conn → same_number q conn ≡ true
same_number-is q conn is = ap (same_number q) (sym is) ∙ same_number-refl q

pub same_clients : (a b : Clients) → ((q : ℕ) → get a q ≡ get b q) → a ≡ b
same_clients a b alike = same_map nat_cmp_total nat_cmp-IsAntisymmetric a b alike

pub get-with : {X : Type 0} (map : FinMap nat_cmp X) (number : ℕ) (value : X) (q : ℕ)
    → get (insert map number value) q ≡ cond (same_number q number) (Some value) (get map q)
get-with map number value q = get-insert nat_cmp_total map number value q

pub get-without : {X : Type 0} (map : FinMap nat_cmp X) (number q : ℕ)
    → get (remove map number) q ≡ cond (same_number q number) None (get map q)
get-without map number q = get-remove nat_cmp_total map number q

find_each : (change : Client → Client) (q : ℕ) (es : List (ℕ × Client)) → find nat_cmp q
    (map (λ (e : ℕ × Client). (e.0, change e.1)) es) ≡ option_map change (find nat_cmp q es)
find_each change q [] = refl
find_each change q (e ∷ es) = by (same_number q e.0) (find_each change q es)
  where
    by : (b : Bool) → find nat_cmp q (map (λ (e : ℕ × Client). (e.0, change e.1)) es)
        ≡ option_map change (find nat_cmp q es) → cond b (Some (change e.1))
        (find nat_cmp q (map (λ (e : ℕ × Client). (e.0, change e.1)) es))
        ≡ option_map change (cond b (Some e.1) (find nat_cmp q es))
    by true rest = refl
    by false rest = rest

pub get-each : (change : Client → Client) (clients : Clients) (q : ℕ)
    → get (each_client change clients) q ≡ option_map change (get clients q)
get-each change clients q =
    get-from_entries nat_cmp_total (map (λ (e : ℕ × Client). (e.0, change e.1)) (entries clients)) q
    ∙ find_each change q (entries clients)
    ∙ ap (option_map change) (sym (get-entries clients q))

-- the code's map

pub get-numbered : {X : Type 0} (m : BTreeMap ℕ X) (q : ℕ)
    → get (numbered m) q ≡ number_in nat_cmp m q
get-numbered = get-mapped nat_cmp_total nat_cmp-IsAntisymmetric

pub put-numbered : {X : Type 0} (old new : BTreeMap ℕ X) (number : ℕ) (value : X)
    → UpdatesBy nat_cmp (nat_cmp number) old new (Some value)
    → numbered new ≡ insert (numbered old) number value
put-numbered = put-mapped nat_cmp_total nat_cmp-IsAntisymmetric

pub taken-numbered : {X : Type 0} (old new : BTreeMap ℕ X) (number : ℕ)
    → UpdatesBy nat_cmp (nat_cmp number) old new None → numbered new ≡ remove (numbered old) number
taken-numbered = taken-mapped nat_cmp_total nat_cmp-IsAntisymmetric

-- entries in the order of their numbers

-- no entry behind one in order has its number
pub none_behind : (e : (ℕ × Client)) (es : List (ℕ × Client)) → T (below_all nat_cmp e.0 es)
    → find nat_cmp e.0 es ≡ None
none_behind e es below =
    find-above nat_cmp_total e.0 es (sym (above-is nat_cmp_total e.0 es) ∙ is_true _ below)

-- what is found behind an entry is found with it
pub later : (e : (ℕ × Client)) (es : List (ℕ × Client)) (q : ℕ) (c : Client)
    → T (below_all nat_cmp e.0 es) → find nat_cmp q es ≡ Some c → find nat_cmp q (e ∷ es) ≡ Some c
later e es q c below is = by (same_number q e.0) refl
  where
    by : (b : Bool) → same_number q e.0 ≡ b → cond b (Some e.1) (find nat_cmp q es) ≡ Some c
    by true one = let none = none_behind e es below in let moved =
        ap (λ n. find nat_cmp n es) (one_number q e.0 one) in cc
    by false two = is

pub here : (e : (ℕ × Client)) (es : List (ℕ × Client)) → find nat_cmp e.0 (e ∷ es) ≡ Some e.1
here e es = ap (λ b. cond b (Some e.1) (find nat_cmp e.0 es)) (same_number-refl e.0)
