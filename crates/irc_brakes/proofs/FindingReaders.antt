-- What is not read waits for something; and so on, which ends.
use Rattle.std.proofs.Common.{◌≡◌, ◌≢◌, ℕ, ◌+◌, ◌≤◌, zero, suc, true, false, not, ◌||◌}
use Rattle.std.proofs.Common.{List, [], ◌∷◌, ◌++◌, length, inl, inr, refl, sym, ap, subst, ◌∙◌}
use Rattle.std.proofs.Common.{arith}
use Rattle.std.proofs.lemmas.List.Sums.{count_by-le-length}
use Rattle.std.specs.List.{list_any}
use Rattle.std.proofs.lemmas.Bool.{or_right}
use Rattle.irc_relay.specs.Links.{Name, same, Link, IsForest, joined}
use Rattle.irc_relay.specs.Distances.{IsAmong, EndsAreAmong}
use Rattle.irc_relay.specs.Lemmas.TellingNames.{alike, unlike, tell, same_when, same_unless}
use Rattle.irc_brakes.specs.Reading.{is_read_beside}
use Rattle.irc_brakes.specs.Waiting.{Direction, IsOfLinks, IsFull, OnlyLinksAreFull, is_read}
use Rattle.irc_brakes.specs.Waiting.{WaitsFor, WaitsForNone, IsChain, ReadsOrWaits, reads, waits}
use Rattle.irc_brakes.specs.Waiting.{WaitsForReader}
use Rattle.irc_brakes.specs.Laws.{EachReadsOrWaits, WaitsAreShort, WaitsEnd, FullIsReadSomewhere}

-- ---- at one server

at_head : (x : Name) (xs : List Name) → IsAmong (x ∷ xs) x
at_head x xs = ap (λ b. b || list_any (same x) xs) (same_when x x refl)

behind_head : (x : Name) (xs : List Name) (name : Name) → IsAmong xs name → IsAmong (x ∷ xs) name
behind_head x xs name among = or_right (same name x) (list_any (same name) xs) among

-- somebody is read, or there is another for whom too much waits
data Found (full : List Name) (who : Name) : Type 0 where
  read : is_read_beside same full who ≡ true → Found full who
  another : (other : Name) → IsAmong full other → other ≢ who
      → is_read_beside same full who ≡ false → Found full who

find : (full : List Name) (who : Name) → Found full who
find [] who = read refl
find (x ∷ xs) who = elim (tell who x) [
  | unlike f n ↦ another x (at_head x xs) (λ e. n (sym e))
      (ap (λ b. not (not b || list_any (λ other. not (same who other)) xs)) f)
  | alike t e ↦ go t (find xs who)
]
  where
    passed : same who x ≡ true → is_read_beside same (x ∷ xs) who ≡ is_read_beside same xs who
    passed t = ap (λ b. not (not b || list_any (λ other. not (same who other)) xs)) t

    go : same who x ≡ true → Found xs who → Found (x ∷ xs) who
    go t (read r) = read (passed t ∙ r)
    go t (another other among n r) =
        another other (behind_head x xs other among) n (passed t ∙ r)

-- beside another for whom too much waits nobody is read
not_beside : (full : List Name) (who other : Name) → IsAmong full other → other ≢ who
    → is_read_beside same full who ≡ false
not_beside [] who other among n = cc
not_beside (x ∷ xs) who other among n = elim (tell who x) [
  | unlike f _ ↦ ap (λ b. not (not b || list_any (λ other. not (same who other)) xs)) f
  | alike t e ↦ ap (λ b. not (not b || list_any (λ other. not (same who other)) xs)) t
      ∙ not_beside xs who other (later (same_unless other x (λ f. n (f ∙ sym e)))) n
]
  where
    later : same other x ≡ false → IsAmong xs other
    later f = ap (λ b. b || list_any (same other) xs) (sym f) ∙ among

pub each_reads_or_waits : EachReadsOrWaits
each_reads_or_waits links full one only linked = go (find (full one.reader) one.writer)
  where
    none : is_read full one ≡ true → WaitsForNone links full one
    none r other w =
        let f = not_beside (full one.reader) one.writer other.reader
        (subst (λ s. IsAmong (full s) other.reader) (sym w.here) w.too_much) w.onward in
        cc

    go : Found (full one.reader) one.writer → ReadsOrWaits links full one
    go (read r) = reads r (none r)
    go (another other among n r) =
        waits r (record { writer = one.reader; reader = other }) (record {
          linked = linked;
          linked_on = only one.reader other among;
          here = refl;
          onward = n;
          too_much = among;
        })

-- ---- along a chain

longer : (links : List Link) (full : Name → List Name) (one : Direction) (chain : List Direction)
    (last next : Direction) → IsChain links full one chain last → WaitsFor links full last next
    → IsChain links full one (chain ++ next ∷ []) next
longer links full one [] last next e w =
    (subst (λ way. WaitsFor links full way next) (sym e) w, refl)
longer links full one (way ∷ chain) last next on w =
    (on.0, longer links full way chain last next on.1 w)

one_more : (chain : List Direction) (next : Direction)
    → length (chain ++ next ∷ []) ≡ suc (length chain)
one_more [] next = refl
one_more (way ∷ chain) next = ap suc (one_more chain next)

abbrev ends_of : List Link → List Name
ends_of [] = []
ends_of (l ∷ links) = l.near ∷ l.far ∷ ends_of links

all_ends : (links : List Link) → EndsAreAmong (ends_of links) links
all_ends [] s t linked = absurd linked
all_ends (l ∷ links) s t (inl (inl (e, f))) =
    subst (IsAmong (l.near ∷ l.far ∷ ends_of links)) e (at_head l.near (l.far ∷ ends_of links))
all_ends (l ∷ links) s t (inl (inr (e, f))) =
    subst (IsAmong (l.near ∷ l.far ∷ ends_of links)) f
    (behind_head l.near (l.far ∷ ends_of links) l.far (at_head l.far (ends_of links)))
all_ends (l ∷ links) s t (inr linked) =
    behind_head l.near (l.far ∷ ends_of links) s
    (behind_head l.far (ends_of links) s (all_ends links s t linked))

module _ (short : WaitsAreShort) (links : List Link) (full : Name → List Name) (one : Direction)
    (forest : IsForest links) (only : OnlyLinksAreFull links full) (linked : IsOfLinks links one)
  where
    -- a chain that may grow by so many
    record Begun (room : ℕ) : Type 0 where
      chain : List Direction
      last : Direction
      is_chain : IsChain links full one chain last
      of_links : IsOfLinks links last
      last_is_full : IsFull full one → IsFull full last
      long : length (ends_of links) ≤ length chain + room

    no_room : Begun 0 → ⊥
    no_room b =
        let here =
        short (ends_of links) links full one b.chain b.last forest (all_ends links) linked
        b.is_chain in
        let most = count_by-le-length (joined links one.writer) (ends_of links) in
        let long = b.long in
        omega arith

    grown : (room : ℕ) (b : Begun (suc room)) (next : Direction) → WaitsFor links full b.last next
        → Begun room
    grown room b next w = record {
      chain = b.chain ++ next ∷ [];
      last = next;
      is_chain = longer links full one b.chain b.last next b.is_chain w;
      of_links = w.linked_on;
      last_is_full = λ f. w.too_much;
      long = let e = one_more b.chain next in let long = b.long in omega arith;
    }

    follow : (room : ℕ) → Begun room → WaitsForReader links full one
    follow zero b = absurd (no_room b)
    follow (suc room) b = go (each_reads_or_waits links full b.last only b.of_links)
        (λ next w. follow room (grown room b next w))
      where
        go : ReadsOrWaits links full b.last → ((next : Direction) → WaitsFor links full b.last next
            → WaitsForReader links full one) → WaitsForReader links full one
        go (reads r none) further = record {
          last = b.last;
          chain = b.chain;
          is_chain = b.is_chain;
          of_links = b.of_links;
          last_is_read = r;
          last_is_full = b.last_is_full;
        }
        go (waits r next w) further = further next w

pub waits_end : WaitsAreShort → WaitsEnd
waits_end short links full one forest only linked =
    follow short links full one forest only linked (length (ends_of links)) (record {
      chain = [];
      last = one;
      is_chain = refl;
      of_links = linked;
      last_is_full = λ f. f;
      long = omega arith;
    })

pub full_is_read_somewhere : WaitsEnd → FullIsReadSomewhere
full_is_read_somewhere end links full one forest only is_full =
    let found = end links full one forest only (only one.writer one.reader is_full) in
    record {
      some = found.last;
      of_links = found.of_links;
      some_is_full = found.last_is_full is_full;
      some_is_read = found.last_is_read;
    }
