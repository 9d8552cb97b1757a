-- What becomes of connections, step by step: two stretches are one, and what a call or a line of
-- one connection is to the others.
use Rattle.std.proofs.Common.{◌≡◌, ℕ, ◌+◌, ◌<◌, Bool, true, false, not, ◌&&◌, ◌||◌, cond, nat_eq}
use Rattle.std.proofs.Common.{is_some, Option, Some, None, List, [], ◌∷◌, ◌++◌, length, refl, sym}
use Rattle.std.proofs.Common.{◌∙◌, ap, subst, append_assoc, append-nil, arith, length-append}
use Rattle.std.proofs.lemmas.Grind.{flat_map-append}
use Rattle.std.proofs.lemmas.List.Folds.{list_any-append}
use Rattle.std.proofs.lemmas.List.Sums.{sum_by-append}
use Rattle.std.proofs.Math.Bool.{or-false}
use Rattle.std.proofs.lemmas.Bool.{or_left}
use Rattle.irc_names.specs.Lemmas.PlainFacts.{and_neither, and_not}
use Rattle.irc_outbox.specs.Calls.{Call, written, written_by, times_closed, is_close_of}
use Rattle.irc_batch.specs.Batches.{Sent, end_of, end_of_link, line_on, line_to}
use Rattle.irc_engine.specs.declared.kind.ConnectionKind.{ConnectionKind}
use Rattle.irc_engine.specs.declared.connection_table.Connection.{Connection}
use Rattle.irc_engine.specs.Hearing.{begun_at}
use Rattle.irc_engine.specs.Lemmas.HearingLaws.{hears_on, hears_kept}
use Rattle.irc_engine.specs.Carrying.{answers, is_closing, is_closed_by, bytes_owed, ends_at}
use Rattle.irc_engine.specs.Carrying.{is_cut_off, Silent, Stays, Why, finished, cut_off, overflowed}
use Rattle.irc_engine.specs.Carrying.{Leaves, Fate, is_lost_after, Passage}

pub written-append : (conn : ℕ) (a b : List Call)
    → written conn (a ++ b) ≡ written conn a ++ written conn b
written-append conn a b = flat_map-append (written_by conn) a b

pub times_closed-append : (conn : ℕ) (a b : List Call)
    → times_closed conn (a ++ b) ≡ times_closed conn a + times_closed conn b
times_closed-append conn a b = sum_by-append (λ c. cond (is_close_of conn c) 1 0) a b

pub is_cut_off-append : (conn : ℕ) (a b : List Call)
    → is_cut_off conn (a ++ b) ≡ (is_cut_off conn a || is_cut_off conn b)
is_cut_off-append conn a b = list_any-append (ends_at conn) a b

pub is_closed_by-append : (conn : ℕ) (a b : List Sent)
    → is_closed_by conn (a ++ b) ≡ (is_closed_by conn a || is_closed_by conn b)
is_closed_by-append conn a b = list_any-append (is_closing conn) a b

answers-append : (conn : ℕ) (a b : List Sent)
    → answers conn (a ++ b) ≡ answers conn a ++ bytes_owed (not (is_closed_by conn a)) conn b
answers-append conn [] b = refl
answers-append conn (line_to to text ∷ a) b =
    let first : List ℕ = cond (nat_eq to conn) text [] in
    ap (λ xs. first ++ xs) (answers-append conn a b)
    ∙ sym (append_assoc first (answers conn a) (bytes_owed (not (is_closed_by conn a)) conn b))
answers-append conn (end_of which ∷ a) b = by (nat_eq which conn) (answers-append conn a b)
  where
    by : (t : Bool) → answers conn (a ++ b) ≡ answers conn a
        ++ bytes_owed (not (is_closed_by conn a)) conn b → cond t [] (answers conn (a ++ b))
        ≡ cond t [] (answers conn a) ++ bytes_owed (not (t || is_closed_by conn a)) conn b
    by true rest = refl
    by false rest = rest
answers-append conn (line_on link text ∷ a) b =
    let first : List ℕ = cond (nat_eq link conn) text [] in
    ap (λ xs. first ++ xs) (answers-append conn a b)
    ∙ sym (append_assoc first (answers conn a) (bytes_owed (not (is_closed_by conn a)) conn b))
answers-append conn (end_of_link which reason ∷ a) b =
    by (nat_eq which conn) (answers-append conn a b)
  where
    by : (t : Bool) → answers conn (a ++ b) ≡ answers conn a
        ++ bytes_owed (not (is_closed_by conn a)) conn b → cond t [] (answers conn (a ++ b))
        ≡ cond t [] (answers conn a) ++ bytes_owed (not (t || is_closed_by conn a)) conn b
    by true rest = refl
    by false rest = rest

-- what is owed by two stretches, where the first may close the connection
pub owed-append : (is_open : Bool) (conn : ℕ) (a b : List Sent) → bytes_owed is_open conn (a ++ b)
    ≡ bytes_owed is_open conn a ++ bytes_owed (is_open && not (is_closed_by conn a)) conn b
owed-append true conn a b = answers-append conn a b
owed-append false conn a b = refl

-- the lists of two stretches
one_after_other : (held more further first later mid end : List ℕ) → held ++ more ≡ first ++ mid
    → mid ++ further ≡ later ++ end → held ++ (more ++ further) ≡ (first ++ later) ++ end
one_after_other held more further first later mid end one other =
    sym (append_assoc held more further) ∙ ap (λ xs. xs ++ further) one
    ∙ append_assoc first mid further
    ∙ ap (λ xs. first ++ xs) other ∙ sym (append_assoc first later end)

module _ (conn : ℕ) (a b : List Call) (x y : List Sent) where
  silent_on : Silent conn a → Silent conn b → Silent conn (a ++ b)
  silent_on one other = record {
    nothing = written-append conn a b ∙ ap (λ xs. xs ++ written conn b) one.nothing ∙ other.nothing;
    never = times_closed-append conn a b ∙ ap (λ n. n + times_closed conn b) one.never
        ∙ ap (λ n. 0 + n) other.never;
  }

  carried_on : (is_open still : Bool) (held mid end : List ℕ)
      → still ≡ (is_open && not (is_closed_by conn x)) → held ++ bytes_owed is_open conn x
      ≡ written conn a ++ mid → mid ++ bytes_owed still conn y ≡ written conn b ++ end
      → held ++ bytes_owed is_open conn (x ++ y) ≡ written conn (a ++ b) ++ end
  carried_on is_open still held mid end is one other =
      ap (λ xs. held ++ xs) (owed-append is_open conn x y
      ∙ ap (λ t. bytes_owed is_open conn x ++ bytes_owed t conn y) (sym is))
      ∙ one_after_other held (bytes_owed is_open conn x) (bytes_owed still conn y) (written conn a)
      (written conn b) mid end one other
      ∙ ap (λ xs. xs ++ end) (sym (written-append conn a b))

  open_on : (is_open still now : Bool) → still ≡ (is_open && not (is_closed_by conn x)) → now
      ≡ (still && not (is_closed_by conn y)) → now ≡ (is_open && not (is_closed_by conn (x ++ y)))
  open_on is_open still now is then =
      then ∙ ap (λ t. t && not (is_closed_by conn y)) is
      ∙ and_neither is_open (is_closed_by conn x) (is_closed_by conn y)
      ∙ ap (λ t. is_open && not t) (sym (is_closed_by-append conn x y))

  never_on : times_closed conn a ≡ 0 → (n : ℕ) → times_closed conn b ≡ n
      → times_closed conn (a ++ b) ≡ n
  never_on none n is = times_closed-append conn a b ∙ ap (λ m. m + times_closed conn b) none
      ∙ ap (λ m. 0 + m) is ∙ omega arith

  stays_on : (old mid new : Connection) → Stays conn old a x mid → Stays conn mid b y new
      → Stays conn old (a ++ b) (x ++ y) new
  stays_on old mid new one other = record {
    carried = carried_on (is_some old.framer) (is_some mid.framer) old.outbox.bytes mid.outbox.bytes
        new.outbox.bytes one.still_open one.carried other.carried;
    same_room = other.same_room ∙ one.same_room;
    still_open = open_on (is_some old.framer) (is_some mid.framer)
        (is_some new.framer) one.still_open other.still_open;
    never = never_on one.never 0 other.never;
    never_cut = is_cut_off-append conn a b ∙ ap (λ t. t || is_cut_off conn b) one.never_cut
        ∙ other.never_cut;
  }

  why_then : (old mid : Connection) (left : List ℕ) → Stays conn old a x mid → Why conn mid b y left
      → Why conn old (a ++ b) (x ++ y) left
  why_then old mid left one (finished closed none) =
      finished (sym (open_on (is_some old.framer) (is_some mid.framer) false one.still_open
      (sym closed))) none
  why_then old mid left one (cut_off cut) =
      cut_off (is_cut_off-append conn a b ∙ ap (λ t. t || is_cut_off conn b) one.never_cut ∙ cut)
  why_then old mid left one (overflowed more) =
      overflowed (subst (λ (n : ℕ). n < length left) one.same_room more)

  leaves_then : (old mid : Connection) → Stays conn old a x mid → Leaves conn mid b y
      → Leaves conn old (a ++ b) (x ++ y)
  leaves_then old mid one other = record {
    left = other.left;
    carried = carried_on (is_some old.framer) (is_some mid.framer) old.outbox.bytes mid.outbox.bytes
        other.left one.still_open one.carried other.carried;
    once = never_on one.never 1 other.once;
    why = why_then old mid other.left one other.why;
  }

  closed_still : (o c d : Bool) → (o && not c) ≡ false → (o && not (c || d)) ≡ false
  closed_still true true d is = refl
  closed_still true false d is = cc is
  closed_still false c d is = refl

  why_still : (old : Connection) (left : List ℕ) → Why conn old a x left → Why conn old (a ++ b)
      (x ++ y) (left ++ bytes_owed (is_some old.framer && not (is_closed_by conn x)) conn y)
  why_still old left (finished closed none) =
      finished
      (ap (λ t. is_some old.framer && not t) (is_closed_by-append conn x y)
      ∙ closed_still (is_some old.framer) (is_closed_by conn x) (is_closed_by conn y) closed)
      (ap (λ t. left ++ bytes_owed t conn y) closed ∙ append-nil left ∙ none)
  why_still old left (cut_off cut) =
      cut_off (is_cut_off-append conn a b ∙ or_left (is_cut_off conn a) (is_cut_off conn b) cut)
  why_still old left (overflowed more) =
      let rest = bytes_owed (is_some old.framer && not (is_closed_by conn x)) conn y in
      overflowed (omega (arith, more, length-append {A = ℕ} left rest))

  left_already : (old : Connection) → Leaves conn old a x → Silent conn b
      → Leaves conn old (a ++ b) (x ++ y)
  left_already old one other = record {
    left = one.left ++ bytes_owed (is_some old.framer && not (is_closed_by conn x)) conn y;
    carried =
        carried_on (is_some old.framer)
        (is_some old.framer && not (is_closed_by conn x)) old.outbox.bytes one.left
        (one.left ++ bytes_owed (is_some old.framer && not (is_closed_by conn x)) conn y) refl
        one.carried
        (ap (λ xs. xs ++ (one.left ++ bytes_owed
        (is_some old.framer && not (is_closed_by conn x)) conn y)) (sym other.nothing));
    once = times_closed-append conn a b ∙ ap (λ m. m + times_closed conn b) one.once
        ∙ ap (λ m. 1 + m) other.never;
    why = why_still old one.left one.why;
  }

  pub fate_on : (old mid new : Option Connection) → Fate conn old a x mid → Fate conn mid b y new
      → Fate conn old (a ++ b) (x ++ y) new
  fate_on None None None one other = silent_on one other
  fate_on None None (Some new) one other = absurd other
  fate_on None (Some mid) new one other = absurd one
  fate_on (Some old) (Some mid) (Some new) one other = stays_on old mid new one other
  fate_on (Some old) (Some mid) None one other = leaves_then old mid one other
  fate_on (Some old) None None one other = left_already old one other
  fate_on (Some old) None (Some new) one other = absurd other

  lost_both : (l o c d : Bool) → (((l || o) && not c) && not d) ≡ ((l || o) && not (c || d))
  lost_both true o true d = refl
  lost_both true o false d = refl
  lost_both false true true d = refl
  lost_both false true false d = refl
  lost_both false false c d = refl

  lost_late : (l o c d n : Bool) → (((l || (o && false)) && not c) || ((o && not c) && n))
      && not d ≡ ((l || (o && n)) && not (c || d))
  lost_late true true true d n = refl
  lost_late true true false d n = refl
  lost_late true false true d n = refl
  lost_late true false false d n = refl
  lost_late false true true d n = gone n
    where
      gone : (n : Bool) → false ≡ (n && false)
      gone true = refl
      gone false = refl
  lost_late false true false d n = refl
  lost_late false false true d n = refl
  lost_late false false false d n = refl

  lost_on : (old mid new : Option Connection) (was between : Bool) → Fate conn old a x mid
      → Fate conn mid b y new → between ≡ is_lost_after old was (is_closed_by conn x) mid
      → is_lost_after mid between (is_closed_by conn y) new ≡ is_lost_after old was
      (is_closed_by conn x || is_closed_by conn y) new
  lost_on None None new was between one other is =
      ap (λ t. (t || false) && not (is_closed_by conn y)) is
      ∙ ap (λ t. t && not (is_closed_by conn y)) (or-false _)
      ∙ lost_both was false (is_closed_by conn x) (is_closed_by conn y)
  lost_on None (Some mid) new was between one other is = absurd one
  lost_on (Some old) (Some mid) new was between one other is =
      ap (λ t. (t || (is_some mid.framer && not (is_some new))) && not (is_closed_by conn y)) is
      ∙ ap (λ t. (((was || (is_some old.framer && false)) && not (is_closed_by conn x))
      || (t && not (is_some new))) && not (is_closed_by conn y)) one.still_open
      ∙ lost_late was (is_some old.framer) (is_closed_by conn x) (is_closed_by conn y)
      (not (is_some new))
  lost_on (Some old) None None was between one other is =
      ap (λ t. (t || false) && not (is_closed_by conn y)) is
      ∙ ap (λ t. t && not (is_closed_by conn y)) (or-false _)
      ∙ lost_both was (is_some old.framer && true) (is_closed_by conn x) (is_closed_by conn y)
  lost_on (Some old) None (Some new) was between one other is = absurd other

  pub passage_on : (old mid new : Option Connection) (was between now : Option ConnectionKind)
      → Passage conn old was a x mid between → Passage conn mid between b y new now
      → Passage conn old was (a ++ b) (x ++ y) new now
  passage_on old mid new was between now one other = record {
    fate = fate_on old mid new one.fate other.fate;
    lost_is =
        other.lost_is
        ∙ lost_on old mid new (is_some was) (is_some between) one.fate other.fate one.lost_is
        ∙ ap (λ t. is_lost_after old (is_some was) t new) (sym (is_closed_by-append conn x y));
    keeps_kind = λ kind is. one.keeps_kind kind (other.keeps_kind kind is);
    hears_none = hears_on (begun_at old) (begun_at mid)
        (begun_at new) [] [] [] [] one.hears_none other.hears_none;
  }

-- calls and lines of other connections
pub record IsElsewhere (conn : ℕ) (calls : List Call) (outs : List Sent) : Type 0 where
  pub silent : Silent conn calls
  pub never_cut : is_cut_off conn calls ≡ false
  pub nothing : answers conn outs ≡ []
  pub never_closed : is_closed_by conn outs ≡ false

pub elsewhere_both : (conn : ℕ) (a b : List Call) (x y : List Sent) → IsElsewhere conn a x
    → IsElsewhere conn b y → IsElsewhere conn (a ++ b) (x ++ y)
elsewhere_both conn a b x y one other = record {
  silent = silent_on conn a b x y one.silent other.silent;
  never_cut = is_cut_off-append conn a b ∙ ap (λ t. t || is_cut_off conn b) one.never_cut
      ∙ other.never_cut;
  nothing = answers-append conn x y
      ∙ ap (λ xs. xs ++ bytes_owed (not (is_closed_by conn x)) conn y) one.nothing
      ∙ ap (λ t. bytes_owed (not t) conn y) one.never_closed ∙ other.nothing;
  never_closed = is_closed_by-append conn x y ∙ ap (λ t. t || is_closed_by conn y) one.never_closed
      ∙ other.never_closed;
}

pub nothing_owed : (is_open : Bool) (conn : ℕ) (outs : List Sent) → answers conn outs ≡ []
    → bytes_owed is_open conn outs ≡ []
nothing_owed true conn outs none = none
nothing_owed false conn outs none = refl

pub untouched_fate : (conn : ℕ) (calls : List Call) (outs : List Sent) → IsElsewhere conn calls outs
    → (connection : Option Connection) → Fate conn connection calls outs connection
untouched_fate conn calls outs apart None = apart.silent
untouched_fate conn calls outs apart (Some connection) = record {
  carried =
      ap (λ xs. connection.outbox.bytes ++ xs)
      (nothing_owed (is_some connection.framer) conn outs apart.nothing)
      ∙ append-nil connection.outbox.bytes
      ∙ ap (λ xs. xs ++ connection.outbox.bytes) (sym apart.silent.nothing);
  same_room = refl;
  still_open = and_not (is_some connection.framer) (is_closed_by conn outs) apart.never_closed;
  never = apart.silent.never;
  never_cut = apart.never_cut;
}

pub kept_none : (l : Bool) → l ≡ ((l || false) && true)
kept_none true = refl
kept_none false = refl

pub kept_some : (l o : Bool) → l ≡ ((l || (o && false)) && true)
kept_some true o = refl
kept_some false true = refl
kept_some false false = refl

kept_lost : (connection : Option Connection) (l c : Bool) → c ≡ false
    → l ≡ is_lost_after connection l c connection
kept_lost None l c is = kept_none l ∙ ap (λ t. (l || false) && not t) (sym is)
kept_lost (Some connection) l c is = kept_some l (is_some connection.framer)
    ∙ ap (λ t. (l || (is_some connection.framer && false)) && not t) (sym is)

pub untouched : (conn : ℕ) (calls : List Call) (outs : List Sent) → IsElsewhere conn calls outs
    → (old new : Option Connection) (was now : Option ConnectionKind) → new ≡ old → now ≡ was
    → Passage conn old was calls outs new now
untouched conn calls outs apart old new was now same as_lost =
    subst (λ (s : Option Connection). Passage conn old was calls outs s now) (sym same)
    (subst (λ (l : Option ConnectionKind). Passage conn old was calls outs old l) (sym as_lost)
    (record {
      fate = untouched_fate conn calls outs apart old;
      lost_is = kept_lost old (is_some was) (is_closed_by conn outs) apart.never_closed;
      keeps_kind = λ kind is. is;
      hears_none = hears_kept (begun_at old);
    }))

pub same_fate : (conn : ℕ) (connection : Option Connection) → Fate conn connection [] [] connection
same_fate conn connection = untouched_fate conn [] [] (record {
  silent = record {
    nothing = refl;
    never = refl;
  };
  never_cut = refl;
  nothing = refl;
  never_closed = refl;
}) connection

-- What is put out matters to a connection by what is owed to it and by whether it is closed.
module _ (conn : ℕ) (calls : List Call) (outs outs' : List Sent)
    (owes : (is_open : Bool) → bytes_owed is_open conn outs ≡ bytes_owed is_open conn outs')
    (closes : is_closed_by conn outs ≡ is_closed_by conn outs') where
  why_as : (old : Connection) (left : List ℕ) → Why conn old calls outs left
      → Why conn old calls outs' left
  why_as old left (finished is none) =
      finished (ap (λ b. is_some old.framer && not b) (sym closes) ∙ is) none
  why_as old left (cut_off is) = cut_off is
  why_as old left (overflowed more) = overflowed more

  fate_as : (old new : Option Connection) → Fate conn old calls outs new
      → Fate conn old calls outs' new
  fate_as None None fate = fate
  fate_as None (Some new) fate = fate
  fate_as (Some old) (Some new) fate = record {
    carried = ap (λ xs. old.outbox.bytes ++ xs) (sym (owes (is_some old.framer))) ∙ fate.carried;
    same_room = fate.same_room;
    still_open = fate.still_open ∙ ap (λ b. is_some old.framer && not b) closes;
    never = fate.never;
    never_cut = fate.never_cut;
  }
  fate_as (Some old) None fate = record {
    left = fate.left;
    carried = ap (λ xs. old.outbox.bytes ++ xs) (sym (owes (is_some old.framer))) ∙ fate.carried;
    once = fate.once;
    why = why_as old fate.left fate.why;
  }

  pub passage_as : (old : Option Connection) (was_lost : Option ConnectionKind)
      (new : Option Connection)
      (is_lost : Option ConnectionKind) → Passage conn old was_lost calls outs new is_lost
      → Passage conn old was_lost calls outs' new is_lost
  passage_as old was_lost new is_lost passage = record {
    fate = fate_as old new passage.fate;
    lost_is = passage.lost_is ∙ ap (λ b. is_lost_after old (is_some was_lost) b new) closes;
    keeps_kind = passage.keeps_kind;
    hears_none = passage.hears_none;
  }
