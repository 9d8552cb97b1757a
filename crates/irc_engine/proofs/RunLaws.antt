-- Stretches of a turn, one after another.
use Rattle.std.proofs.Common.{◌≡◌, ℕ, ◌+◌, ◌-◌, ◌<◌, ◌≤◌, Bool, true, false, not, ◌&&◌, ◌||◌, cond}
use Rattle.std.proofs.Common.{nat_eq, is_some, Option, Some, None, Result, Ok, Err, OnOk, List, []}
use Rattle.std.proofs.Common.{◌∷◌, ◌++◌, refl, sym, ◌∙◌, ap, subst, append_assoc, append-nil, arith}
use Rattle.std.proofs.Common.{take, drop, length, length-append}
use Rattle.std.specs.List.{filter, slice_range, AllByRecursion}
use Rattle.std.specs.BTreeSet.{BTreeSet}
use Rattle.std.proofs.Math.Seq.{take-add}
use Rattle.std.proofs.lemmas.List.{take-append-le, take-append-drop, length-take}
use Rattle.std.proofs.lemmas.List.Folds.{drop_split}
use Rattle.std.proofs.lemmas.List.Elements.{filter-append}
use Rattle.std.proofs.Math.Bool.{or-false, and-false, and-true}
use Rattle.std.proofs.lemmas.Bool.{or_parts, eq-eqb, eqb-true}
use Rattle.irc_names.specs.Lemmas.PlainFacts.{and_not}
use Rattle.irc_outbox.specs.declared.wire.Got.{Got}
use Rattle.irc_outbox.specs.declared.wire.Got.TheVariants.{Bytes, Later, End}
use Rattle.irc_outbox.specs.declared.wire.IoFault.{IoFault}
use Rattle.irc_outbox.specs.Calls.{Call, reads, closes, bytes_got, Adds, FitsIn}
use Rattle.irc_server.specs.declared.event.Event.{Event}
use Rattle.irc_batch.specs.Batches.{Sent}
use Rattle.irc_stage.specs.View.{View}
use Rattle.irc_engine.specs.declared.connections.Connections.{Connections}
use Rattle.irc_engine.specs.declared.kind.ConnectionKind.{ConnectionKind}
use Rattle.irc_engine.specs.declared.kind.ConnectionKind.TheVariants as kinds
use Rattle.irc_engine.specs.declared.connection_table.Connection.{Connection}
use Rattle.irc_engine.specs.declared.connection_table.ConnectionTable.{ConnectionTable}
use Rattle.irc_engine.specs.Carrying.{is_exchange, bytes_owed, is_open_at, is_cut_off, is_closed_by}
use Rattle.irc_engine.specs.Carrying.{kind_at, AddsAll, Fate, IsOfKind, kind_of_connection}
use Rattle.irc_engine.specs.Carrying.{kind_of_loss, KeepsKind, Passage, cut_off}
use Rattle.irc_line.specs.Lines.{Begun}
use Rattle.irc_line.specs.Framed.{found_in}
use Rattle.irc_engine.specs.Hearing.{begun_at, end_event_of, line_event_of, lines_by, times_gone}
use Rattle.irc_engine.specs.Hearing.{nothing_of, only_of, Hears}
use Rattle.irc_journal.specs.declared.journal.Journal.{Journal}
use Rattle.irc_journal.specs.Signs.{EntersAll}
use Rattle.irc_engine.specs.Noting.{event_signs, out_signs}
use Rattle.irc_engine.specs.Machines.{due_by, never_due, Dues, Handles, IsDue}
use Rattle.irc_engine.specs.Running.{MomentOf, AskedOf, AreAskedBy, asked, asked_at, AsksOnceBy}
use Rattle.irc_engine.specs.Running.{IsDoneBy, IsNews}
use Rattle.irc_engine.specs.Running.{a_line, an_end, RanBy, RanOnBy, ConnectionState, standing_of}
use Rattle.irc_engine.specs.Running.{TellsServer}
use Rattle.irc_engine.specs.Writing.{one_if}
use Rattle.irc_engine.proofs.NotingLaws.{enters_both}
use Rattle.irc_engine.specs.Lemmas.HearingLaws.{lines_by-append, times_gone-append, hears_on}
use Rattle.irc_engine.specs.Lemmas.HearingLaws.{hears_kept, hears_same, hears_gone, hears_deaf}
use Rattle.irc_engine.specs.Loops.Tables.{at_connection, no_connection, FramesAt}
use Rattle.irc_engine.specs.Moments.{connection_of, has, lost_at}
use Rattle.irc_engine.specs.Loops.Connections.{lost_by, Carries, Loses}
use Rattle.irc_engine.specs.Loops.Moments.{came, passed_on}
use Rattle.irc_engine.proofs.EachConnection.{adds_none, adds_both, at_once, set_here, set_other}
use Rattle.irc_engine.proofs.EachConnection.{close_elsewhere, last_close}
use Rattle.irc_engine.proofs.KindLaws.{kind_kept, kind_of_lost, some_lost}
use Rattle.arrayvec.specs.ArrayVec.{ArrayVec}
use Rattle.irc_engine.specs.Lemmas.CarryingLaws.{is_closed_by-append, IsElsewhere, elsewhere_both}
use Rattle.irc_engine.specs.Lemmas.CarryingLaws.{fate_on, same_fate, untouched_fate, nothing_owed}

pub on_ok : {E : Type 0} (result : Result (Unit {0}) E) (P Q : Type 0) → (P → Q) → OnOk result P
    → OnOk result Q
on_ok (Ok done) P Q so holds = so holds
on_ok (Err fault) P Q so holds = tt

pub on_both : {E : Type 0} (result : Result (Unit {0}) E) (P Q R : Type 0) → (P → Q → R)
    → OnOk result P → OnOk result Q → OnOk result R
on_both (Ok done) P Q R so holds too = so holds too
on_both (Err fault) P Q R so holds too = tt

pub none_there : (connection : Option Connection) → is_some connection ≡ false → connection ≡ None
none_there None none = refl
none_there (Some connection) none = cc none

pub asked_on : {M : Type 0} (server_of : M → Option View) (handles : Handles M)
    (old mid new : AskedOf M) (a b : List Event) (x y : List Sent)
    → AreAskedBy server_of handles old a x mid → AreAskedBy server_of handles mid b y new
    → AreAskedBy server_of handles old (a ++ b) (x ++ y) new
asked_on {M} server_of handles old mid new [] b x y one other =
    subst (λ (o : AskedOf M). AreAskedBy server_of handles o b (x ++ y) new) one.1
    (subst (λ (os : List Sent). AreAskedBy server_of handles mid b (os ++ y) new) (sym one.0) other)
asked_on server_of handles old mid new (event ∷ a) b x y one other = record {
  between = one.between;
  first = one.first;
  more = one.more ++ y;
  is_handled = one.is_handled;
  is_noted = one.is_noted;
  outs_are = ap (λ os. os ++ y) one.outs_are ∙ append_assoc one.first one.more y;
  rest_is = asked_on server_of handles one.between mid new a b one.more y one.rest_is other;
}

-- what the server is told of one connection, in two stretches
tells_on : (conn : ℕ) (was mid now : ConnectionState) (a b : List Event) (x y : List Sent)
    → TellsServer conn was a x mid → TellsServer conn mid b y now
    → TellsServer conn was (a ++ b) (x ++ y) now
tells_on conn was mid now a b x y one other = λ apart.
    let first = one apart in
    let then = other first.apart in
    record {
      at_most = omega (arith, first.at_most, then.at_most, times_gone-append conn a b);
      unless_closed = λ is_open.
          let parts = or_parts (is_closed_by conn x) (is_closed_by conn y)
          (sym (is_closed_by-append conn x y) ∙ is_open) in
          omega (
            arith,
            first.unless_closed parts.0,
            then.unless_closed parts.1,
            times_gone-append conn a b,
          );
      apart = then.apart;
    }

tells_still : (conn : ℕ) (now : ConnectionState) → TellsServer conn now [] [] now
tells_still conn now =
    λ apart. record { at_most = omega arith; unless_closed = λ is_open. omega arith; apart = apart }

tells_as : (conn : ℕ) (was now : ConnectionState) → now.lost ≡ was.lost → now.is_open ≡ was.is_open
    → TellsServer conn was [] [] now
tells_as conn was now lost is_open =
    subst (λ (l : Bool). TellsServer conn was [] [] (record { lost = l; is_open = now.is_open }))
    (sym lost)
    (subst (λ (o : Bool). TellsServer conn was [] [] (record { lost = was.lost; is_open = o }))
    (sym is_open) (tells_still conn was))

fewer : (b c : Bool) → 0 + one_if (b && not c) ≤ one_if b
fewer true true = omega arith
fewer true false = omega arith
fewer false c = omega arith

known_none : (l c : Bool) → (((l || false) && not c) || false) ≡ ((l || false) && not c)
known_none true true = refl
known_none true false = refl
known_none false c = refl

known_some : (l o c : Bool) → (((l || (o && false)) && not c) || (o && not c)) ≡ ((l || o) && not c)
known_some true true true = refl
known_some true true false = refl
known_some true false true = refl
known_some true false false = refl
known_some false true true = refl
known_some false true false = refl
known_some false false true = refl
known_some false false false = refl

known_left : (l o c : Bool) → (((l || (o && true)) && not c) || false) ≡ ((l || o) && not c)
known_left true o true = refl
known_left true o false = refl
known_left false true true = refl
known_left false true false = refl
known_left false false true = refl
known_left false false false = refl

-- the server knows of just those connections of which it knew, but for those that it has closed
known_after : (conn : ℕ) (old : Option Connection) (was : Option ConnectionKind)
    (calls : List Call) (outs : List Sent) (new : Option Connection) (now : Option ConnectionKind)
    → Passage conn old was calls outs new now → (is_some now || is_open_at new)
    ≡ ((is_some was || is_open_at old) && not (is_closed_by conn outs))
known_after conn None was calls outs None now passed = ap (λ t. t || false) passed.lost_is
    ∙ known_none (is_some was) (is_closed_by conn outs)
known_after conn None was calls outs (Some new) now passed = absurd passed.fate
known_after conn (Some old) was calls outs (Some new) now passed =
    ap (λ t. t || is_some new.framer) passed.lost_is
    ∙ ap (λ t. ((is_some was || (is_some old.framer && false)) && not (is_closed_by conn outs))
    || t) passed.fate.still_open
    ∙ known_some (is_some was) (is_some old.framer) (is_closed_by conn outs)
known_after conn (Some old) was calls outs None now passed =
    ap (λ t. t || false) passed.lost_is
    ∙ known_left (is_some was) (is_some old.framer) (is_closed_by conn outs)

apart_some : (l o c : Bool) → (l && o) ≡ false
    → (((l || (o && false)) && not c) && (o && not c)) ≡ false
apart_some true true c is = cc is
apart_some true false true is = refl
apart_some true false false is = refl
apart_some false true c is = refl
apart_some false false c is = refl

apart_after : (conn : ℕ) (old : Option Connection) (was : Option ConnectionKind)
    (calls : List Call) (outs : List Sent) (new : Option Connection) (now : Option ConnectionKind)
    → Passage conn old was calls outs new now → (is_some was && is_open_at old) ≡ false
    → (is_some now && is_open_at new) ≡ false
apart_after conn old was calls outs None now passed apart = and-false (is_some now)
apart_after conn None was calls outs (Some new) now passed apart = absurd passed.fate
apart_after conn (Some old) was calls outs (Some new) now passed apart =
    ap (λ t. t && is_some new.framer) passed.lost_is
    ∙ ap (λ t. ((is_some was || (is_some old.framer && false)) && not (is_closed_by conn outs))
    && t) passed.fate.still_open
    ∙ apart_some (is_some was) (is_some old.framer) (is_closed_by conn outs) apart

-- something is done of itself: the server is told nothing
tells_passage : (conn : ℕ) (old : Option Connection) (was : Option ConnectionKind)
    (calls : List Call) (outs : List Sent) (new : Option Connection) (now : Option ConnectionKind)
    → Passage conn old was calls outs new now
    → TellsServer conn (record { lost = is_some was; is_open = is_open_at old }) [] outs
    (record { lost = is_some now; is_open = is_open_at new })
tells_passage conn old was calls outs new now passed = λ apart. record {
  at_most = subst (λ (b : Bool). 0 + one_if b ≤ one_if (is_some was || is_open_at old)) (sym known)
      (fewer (is_some was || is_open_at old) (is_closed_by conn outs));
  unless_closed = λ is_open.
      let same : one_if (is_some now || is_open_at new) ≡ one_if (is_some was || is_open_at old) =
      ap one_if (known ∙ ap (λ c. (is_some was || is_open_at old) && not c) is_open
      ∙ and-true (is_some was || is_open_at old)) in
      omega (arith, same);
  apart = apart_after conn old was calls outs new now passed apart;
}
  where
    known : (is_some now || is_open_at new)
        ≡ ((is_some was || is_open_at old) && not (is_closed_by conn outs))
    known = known_after conn old was calls outs new now passed

-- an open connection is lost
lost_now : (q : ℕ) (l o t p : Bool) (s : Option Connection) → t ≡ true → o ≡ true
    → p ≡ true → TellsServer q (record { lost = l; is_open = o }) [] []
    (record { lost = l || (t && p); is_open = is_open_at (cond t None s) })
lost_now q l o false p s one here is_open = cc one
lost_now q l false t p s one here is_open = cc here
lost_now q l o t false s one here is_open = cc is_open
lost_now q true true true true s one here is_open = λ apart. cc apart
lost_now q false true true true s one here is_open =
    λ apart. record { at_most = omega arith; unless_closed = λ never. omega arith; apart = refl }

line_told : (kind : ConnectionKind) (conn q : ℕ) (line : ArrayVec ℕ) → lines_by q
    (line_event_of kind conn line ∷ []) ≡ cond (nat_eq conn q) (line.items ∷ []) [] ++ []
line_told kinds.Client conn q line = refl
line_told kinds.Link conn q line = refl

lines_here : (kind : ConnectionKind) (conn : ℕ) (line : Option (ArrayVec ℕ))
    → lines_by conn (passed_on kind conn line) ≡ found_in line
lines_here kind conn None = refl
lines_here kind conn (Some line) =
    line_told kind conn conn line ∙ ap (λ xs. xs ++ []) (at_once conn (line.items ∷ []) [])

lines_elsewhere : (kind : ConnectionKind) (conn q : ℕ) (line : Option (ArrayVec ℕ))
    → nat_eq conn q ≡ false → lines_by q (passed_on kind conn line) ≡ []
lines_elsewhere kind conn q None two = refl
lines_elsewhere kind conn q (Some line) two =
    line_told kind conn q line ∙ ap (λ t. cond t (line.items ∷ []) [] ++ []) two

no_end_told : (kind : ConnectionKind) (conn q : ℕ) (line : ArrayVec ℕ)
    → times_gone q (line_event_of kind conn line ∷ []) ≡ 0
no_end_told kinds.Client conn q line = refl
no_end_told kinds.Link conn q line = refl

told_by_no_line : (q : ℕ) (kind : ConnectionKind) (conn : ℕ) (line : Option (ArrayVec ℕ))
    (was now : ConnectionState)
    (events : List Event) (outs : List Sent) → TellsServer q was events outs now
    → TellsServer q was (passed_on kind conn line ++ events) outs now
told_by_no_line q kind conn line was now events outs tells =
    tells_on q was was now (passed_on kind conn line) events [] outs (alone line) tells
  where
    alone : (line : Option (ArrayVec ℕ)) → TellsServer q was (passed_on kind conn line) [] was
    alone None = tells_still q was
    alone (Some l) = λ apart. let none = no_end_told kind conn q l in
        record {
          at_most = omega (arith, none);
          unless_closed = λ never. omega (arith, none);
          apart = apart;
        }

none_of : (t : Bool) → cond {A = List ℕ} t [] [] ≡ []
none_of true = refl
none_of false = refl

only_both : (t : Bool) (a b : List ℕ) → cond t (a ++ b) [] ≡ cond t a [] ++ cond t b []
only_both true a b = refl
only_both false a b = refl

abbrev pub number_in : Option ℕ → ℕ
number_in None = 0
number_in (Some n) = n

got : (answer : Result Got IoFault) (buffer : List ℕ) (n : ℕ) → came answer ≡ Some n
    → bytes_got answer buffer ≡ take n buffer
got (Ok (Bytes m)) buffer n is = ap (λ o. take (number_in o) buffer) is
got (Ok Later) buffer n is = ap (λ o. take (number_in o) buffer) is
got (Ok End) buffer n is = cc is
got (Err fault) buffer n is = cc is

got_none : (answer : Result Got IoFault) (buffer : List ℕ) → came answer ≡ None
    → bytes_got answer buffer ≡ []
got_none (Ok (Bytes m)) buffer is = cc is
got_none (Ok Later) buffer is = cc is
got_none (Ok End) buffer is = refl
got_none (Err fault) buffer is = refl

front_of : (buffer piece : List ℕ) (used more count : ℕ)
    → piece ≡ slice_range buffer used count → used ≤ count → more ≤ length piece
    → take (used + more) buffer ≡ take used buffer ++ take more piece
front_of buffer piece used more count is within fits =
    take-add used more buffer
    ∙ ap (λ xs. take used buffer ++ take more xs) (drop_split buffer used count within
    ∙ ap (λ p. p ++ drop count buffer) (sym is))
    ∙ ap (λ xs. take used buffer ++ xs) (take-append-le more piece (drop count buffer) fits)

pub front_whole : (buffer : List ℕ) (used count : ℕ) → used ≤ count
    → take count buffer ≡ take used buffer ++ take (count - used) (drop used buffer)
front_whole buffer used count within =
    ap (λ n. take n buffer) (omega (arith, within)) ∙ take-add used (count - used) buffer

pub used_within : (bytes : List ℕ) (used count more : ℕ) → used < count
    → more ≤ length (take (count - used) bytes) → used + more ≤ count
used_within bytes used count more within fits =
    omega (arith, within, fits, length-take (count - used) bytes)

pub frames_within : (conn : ℕ) (piece : List ℕ) (old new : ConnectionTable) (used : ℕ)
    (kind : ConnectionKind)
    (line : Option (ArrayVec ℕ)) → FramesAt conn piece old (Some (used, kind, line)) new
    → used ≤ length piece
frames_within conn piece old new used kind line (no_connection none same never) = cc never
frames_within conn piece old new used kind line (at_connection connection now was set so) =
    so.within

-- what a read gave, in the buffer after it
pub front_after : (answer : Result Got IoFault) (xs rest : List ℕ) (n room len : ℕ)
    → came answer ≡ Some n → FitsIn answer room → room ≡ len → length xs ≡ room
    → take n (take len (xs ++ rest)) ≡ take n xs
front_after (Ok (Bytes m)) xs rest n room len is fits same long =
    subst (λ k. take k (take len (xs ++ rest)) ≡ take k xs) (ap number_in is) (sym (
    sym (take-append-le m xs rest (omega (arith, fits, long)))
    ∙ ap (λ ys. take m ys) (sym (take-append-drop len (xs ++ rest)))
    ∙ take-append-le m (take len (xs ++ rest)) (drop len (xs ++ rest))
    (omega (arith, fits, same, long, length-take len (xs ++ rest), length-append {A = ℕ} xs rest))))
front_after (Ok Later) xs rest n room len is fits same long =
    subst (λ k. take k (take len (xs ++ rest)) ≡ take k xs) (ap number_in is) refl
front_after (Ok End) xs rest n room len is fits same long = cc is
front_after (Err fault) xs rest n room len is fits same long = cc is

-- what is told in two stretches
all_both : {X : Type 0} (P : X → Type 0) (xs ys : List X) → AllByRecursion P xs
    → AllByRecursion P ys → AllByRecursion P (xs ++ ys)
all_both P [] ys one other = other
all_both P (x ∷ xs) ys one other = (one.0, all_both P xs ys one.1 other)

all_as : {X : Type 0} (P Q : X → Type 0) → ((x : X) → P x → Q x) → (xs : List X)
    → AllByRecursion P xs → AllByRecursion Q xs
all_as P Q so [] all = tt
all_as P Q so (x ∷ xs) all = (so x all.0, all_as P Q so xs all.1)

news_before : {W M : Type 0} (old mid : MomentOf W M) → ((conn : ℕ)
    → KeepsKind (old.connections conn) (old.lost conn) (mid.connections conn) (mid.lost conn))
    → (event : Event) → IsNews mid event → IsNews old event
news_before old mid keep event (a_line kind conn line is told) =
    a_line kind conn line (keep conn kind is) told
news_before old mid keep event (an_end kind conn is told) =
    an_end kind conn (keep conn kind is) told

-- the engine's connections, and what else there is of it, at one moment
abbrev pub at_connections : {W M : Type 0} → M → Journal → ℕ → Connections W → MomentOf W M
at_connections server journal room connections = record {
  server = server;
  journal = journal;
  wire = connections.wire;
  connections = connection_of connections.table;
  lost = lost_at connections.lost;
  waiting = has connections.waiting;
  read_room = room;
}

-- The server is told that a connection is gone, which was lost and of which it was to be told.
gone_once : (kind : ConnectionKind) (conn q : ℕ) (t : Bool) → nat_eq conn q ≡ t
    → times_gone q (end_event_of kind conn ∷ []) ≡ 0 + cond t 1 0
gone_once kinds.Client conn q t is = ap (λ u. 0 + cond u 1 0) is
gone_once kinds.Link conn q t is = ap (λ u. 0 + cond u 1 0) is

gone_of : (kind : ConnectionKind) (conn q : ℕ) (t l o : Bool) (events : List Event)
    (outs : List Sent) (now : ConnectionState) → nat_eq conn q ≡ t → (t ≡ true → l ≡ true)
    → TellsServer q (record { lost = cond t false l; is_open = o }) events outs now
    → TellsServer q (record { lost = l; is_open = o }) (end_event_of kind conn ∷ events) outs now
gone_of kind conn q true true true events outs now is lost tells = λ apart. cc apart
gone_of kind conn q true true false events outs now is lost tells = λ apart.
    let told = tells refl in
    let here = gone_once kind conn q true is in
    record {
      at_most = omega (
        arith,
        told.at_most,
        here,
        times_gone-append q (end_event_of kind conn ∷ []) events,
      );
      unless_closed = λ is_open. omega (
        arith,
        told.unless_closed is_open,
        here,
        times_gone-append q (end_event_of kind conn ∷ []) events,
      );
      apart = told.apart;
    }
gone_of kind conn q true false o events outs now is lost tells = cc (lost refl)
gone_of kind conn q false l o events outs now is lost tells = λ apart.
    let told = tells apart in
    let here = gone_once kind conn q false is in
    record {
      at_most = omega (
        arith,
        told.at_most,
        here,
        times_gone-append q (end_event_of kind conn ∷ []) events,
      );
      unless_closed = λ is_open. omega (
        arith,
        told.unless_closed is_open,
        here,
        times_gone-append q (end_event_of kind conn ∷ []) events,
      );
      apart = told.apart;
    }

no_line_of_an_end : (kind : ConnectionKind) (conn q : ℕ) (events : List Event)
    → lines_by q (end_event_of kind conn ∷ events) ≡ lines_by q events
no_line_of_an_end kinds.Client conn q events = refl
no_line_of_an_end kinds.Link conn q events = refl

still_lost : (t : Bool) (l : Option ConnectionKind)
    → is_some (cond t None l) ≡ cond t false (is_some l)
still_lost true l = refl
still_lost false l = refl

-- the fate of one connection, and that of the others
fate_of_one : (conn : ℕ) (old new : ℕ → Option Connection) (calls : List Call) (outs : List Sent)
    → ((q : ℕ) → nat_eq conn q ≡ false → new q ≡ old q)
    → ((q : ℕ) → nat_eq conn q ≡ false → IsElsewhere q calls outs)
    → Fate conn (old conn) calls outs (new conn) → (q : ℕ) → Fate q (old q) calls outs (new q)
fate_of_one conn old new calls outs same apart here q = by (nat_eq conn q) refl
  where
    by : (t : Bool) → nat_eq conn q ≡ t → Fate q (old q) calls outs (new q)
    by true one = subst (λ p. Fate p (old p) calls outs (new p)) (eqb-true conn q one) here
    by false two = subst (λ (s : Option Connection). Fate q (old q) calls outs s)
        (sym (same q two)) (untouched_fate q calls outs (apart q two) (old q))

-- a read that gave bytes, or none yet
goes_by : (conn room : ℕ) (answer : Result Got IoFault) (bytes : List ℕ) (n : ℕ)
    → came answer ≡ Some n → (q : ℕ) → IsElsewhere q (reads conn room answer bytes ∷ []) []
goes_by conn room (Ok (Bytes m)) bytes n is q = record {
  silent = record {
    nothing = refl;
    never = refl;
  };
  never_cut = refl;
  nothing = refl;
  never_closed = refl;
}
goes_by conn room (Ok Later) bytes n is q = record {
  silent = record {
    nothing = refl;
    never = refl;
  };
  never_cut = refl;
  nothing = refl;
  never_closed = refl;
}
goes_by conn room (Ok End) bytes n is q = cc is
goes_by conn room (Err fault) bytes n is q = cc is

-- a read that ended or failed
cut_elsewhere : (conn room : ℕ) (answer : Result Got IoFault) (bytes : List ℕ)
    → came answer ≡ None → (q : ℕ) → nat_eq conn q ≡ false
    → IsElsewhere q (reads conn room answer bytes ∷ []) []
cut_elsewhere conn room (Ok (Bytes m)) bytes is q two = cc is
cut_elsewhere conn room (Ok Later) bytes is q two = cc is
cut_elsewhere conn room (Ok End) bytes is q two =
    record {
      silent = record { nothing = refl; never = refl };
      never_cut = ap (λ t. t || false) two;
      nothing = refl;
      never_closed = refl;
    }
cut_elsewhere conn room (Err fault) bytes is q two =
    record {
      silent = record { nothing = refl; never = refl };
      never_cut = ap (λ t. t || false) two;
      nothing = refl;
      never_closed = refl;
    }

cut_here : (conn room : ℕ) (answer : Result Got IoFault) (bytes : List ℕ) → came answer ≡ None
    → is_cut_off conn (reads conn room answer bytes ∷ closes conn ∷ []) ≡ true
cut_here conn room (Ok (Bytes m)) bytes is = cc is
cut_here conn room (Ok Later) bytes is = cc is
cut_here conn room (Ok End) bytes is = ap (λ t. t || false) (eq-eqb conn conn refl)
cut_here conn room (Err fault) bytes is = ap (λ t. t || false) (eq-eqb conn conn refl)

module _ {W M : Type 0} {server_of : M → Option View} {handles : Handles M}
    (is_after : W → List Call → Type 0) where
  pub ran_both : (a b : List Call) (first : List Event) (f g h : ℕ → List ℕ)
      (old mid new : MomentOf W M) → ((q : ℕ) → h q ≡ f q ++ g q)
      → RanBy is_after server_of handles a first f old mid
      → RanBy is_after server_of handles b [] g mid new
      → RanBy is_after server_of handles (a ++ b) first h old new
  ran_both a b first f g h old mid new is one other = record {
    events = one.events ++ other.events;
    outs = one.outs ++ other.outs;
    calls = one.calls ++ other.calls;
    are_asked = subst (λ (es : List Event). AreAskedBy server_of handles (asked_at old) es
        (one.outs ++ other.outs)
        (asked_at new)) (append_assoc first one.events other.events)
        (asked_on server_of handles (asked_at old) (asked_at mid) (asked_at new)
        (first ++ one.events) other.events one.outs other.outs one.are_asked other.are_asked);
    account = adds_both is_after old.wire mid.wire new.wire one.calls other.calls one.account
        other.account;
    exchanged = filter-append is_exchange one.calls other.calls
        ∙ ap (λ cs. cs ++ filter is_exchange other.calls) one.exchanged ∙ ap
        (λ cs. a ++ cs) other.exchanged;
    fates = λ conn. fate_on conn one.calls other.calls one.outs other.outs (old.connections conn)
        (mid.connections conn) (new.connections conn) (one.fates conn) (other.fates conn);
    are_news = all_both (IsNews old) one.events other.events one.are_news
        (all_as (IsNews mid) (IsNews old)
        (news_before old mid one.keep_kinds) other.events other.are_news);
    keep_kinds = λ conn kind is. one.keep_kinds conn kind (other.keep_kinds conn kind is);
    hears = λ conn. subst (λ (bs : List ℕ). Hears (begun_at (old.connections conn)) bs
        (lines_by conn (one.events ++ other.events)) (begun_at (new.connections conn)))
        (sym (is conn))
        (subst (λ (ls : List (List ℕ)). Hears (begun_at (old.connections conn))
        (f conn ++ g conn) ls (begun_at (new.connections conn)))
        (sym (lines_by-append conn one.events other.events))
        (hears_on (begun_at (old.connections conn)) (begun_at (mid.connections conn))
        (begun_at (new.connections conn)) (f conn) (g conn)
        (lines_by conn one.events) (lines_by conn other.events) (one.hears conn)
        (other.hears conn)));
    tells = λ conn. tells_on conn (standing_of conn old) (standing_of conn mid)
        (standing_of conn new) one.events other.events one.outs other.outs
        (one.tells conn) (other.tells conn);
    same_room = other.same_room ∙ one.same_room;
  }

  pub ran_then : (exchanges : List Call) (first : List Event) (f g h : ℕ → List ℕ)
      (old mid new : MomentOf W M) → ((q : ℕ) → h q ≡ f q ++ g q)
      → RanBy is_after server_of handles exchanges first f old mid
      → RanBy is_after server_of handles [] [] g mid new
      → RanBy is_after server_of handles exchanges first h old new
  ran_then exchanges first f g h old mid new is one other =
      subst (λ (cs : List Call). RanBy is_after server_of handles cs first h old new) (append-nil
      exchanges)
      (ran_both exchanges [] first f g h old mid new is one other)

  pub ran_after : (exchanges : List Call) (first : List Event) (came : ℕ → List ℕ)
      (old mid new : MomentOf W M) → RanBy is_after server_of handles exchanges first came old mid
      → RanOnBy is_after server_of handles mid new
      → RanBy is_after server_of handles exchanges first came old new
  ran_after exchanges first came old mid new one other =
      ran_then exchanges first came nothing_of came old mid new
      (λ q. sym (append-nil (came q))) one other

  pub ran_on : (old mid new : MomentOf W M) → RanOnBy is_after server_of handles old mid
      → RanOnBy is_after server_of handles mid new
      → RanOnBy is_after server_of handles old new
  ran_on old mid new one other = ran_after [] [] nothing_of old mid new one other

  -- nothing has happened
  pub ran_none : (old : MomentOf W M) → RanOnBy is_after server_of handles old old
  ran_none old = record {
    events = [];
    outs = [];
    calls = [];
    are_asked = (refl, refl);
    account = adds_none is_after old.wire old.wire refl;
    exchanged = refl;
    fates = λ conn. same_fate conn (old.connections conn);
    are_news = tt;
    keep_kinds = λ conn kind is. is;
    hears = λ conn. hears_kept (begun_at (old.connections conn));
    tells = λ conn. tells_still conn (standing_of conn old);
    same_room = refl;
  }

  -- nothing has happened, but that other connections are noted
  pub ran_marked : (server : M) (journal : Journal)
      (room : ℕ) (connections : Connections W) (waiting : BTreeSet ℕ)
      → RanOnBy is_after server_of handles (at_connections server journal room connections)
      (at_connections server journal room (record connections { waiting = waiting }))
  ran_marked server journal room connections waiting = record {
    events = [];
    outs = [];
    calls = [];
    are_asked = (refl, refl);
    account = adds_none is_after connections.wire connections.wire refl;
    exchanged = refl;
    fates = λ conn. same_fate conn (connection_of connections.table conn);
    are_news = tt;
    keep_kinds = λ conn kind is. is;
    hears = λ conn. hears_kept (begun_at (connection_of connections.table conn));
    tells = λ conn. tells_still conn
        (standing_of conn (at_connections server journal room connections));
    same_room = refl;
  }

  -- what the server put out by an event is done
  ran_event : (server after : M) (journal entered written : Journal)
      (room : ℕ) (old new : Connections W) (event : Event) (before outs : List Sent)
      → before ≡ [] → handles server event before (Ok tt) after outs → EntersAll
      (event_signs event (server_of after)) journal entered
      → EntersAll (out_signs outs) entered written
      → Carries is_after [] old outs new → RanBy is_after server_of handles [] (event ∷ [])
      nothing_of
      (at_connections server journal room old) (at_connections after written room new)
  ran_event server after journal entered written room old new event before outs none handled noted
      closed carries = record {
        events = [];
        outs = outs;
        calls = carries.calls;
        are_asked = record {
          between = asked after written;
          first = outs;
          more = [];
          is_handled =
              subst (λ (os : List Sent). handles server event os (Ok tt) after outs) none handled;
          is_noted = enters_both (event_signs event (server_of after))
              (out_signs outs) journal entered written noted closed;
          outs_are = sym (append-nil outs);
          rest_is = (refl, refl);
        };
        account = carries.account;
        exchanged = carries.exchanged;
        fates = λ conn. (carries.passage conn).fate;
        are_news = tt;
        keep_kinds = λ conn. (carries.passage conn).keeps_kind;
        hears = λ conn. (carries.passage conn).hears_none;
        tells = λ conn. tells_passage conn (connection_of old.table conn)
            (lost_at old.lost conn) carries.calls outs (connection_of new.table conn)
            (lost_at new.lost conn) (carries.passage conn);
        same_room = refl;
      }

  pub asked_once : (server after : M) (journal entered written : Journal)
      (room : ℕ) (old new : Connections W) (event : Event) (before outs : List Sent)
      → before ≡ [] → handles server event before (Ok tt) after outs → EntersAll
      (event_signs event (server_of after)) journal entered
      → EntersAll (out_signs outs) entered written
      → Carries is_after [] old outs new → AsksOnceBy is_after server_of handles event
      (at_connections server journal room old) (at_connections after written room new)
  unfolding ran_event
  asked_once server after journal entered written room old new event before outs none handled noted
      closed carries = (
        ran_event server after journal entered written room old new event before outs none handled
            noted closed carries,
        refl,
      )

  -- the event by which the server is asked, called otherwise
  pub asks_as : (event told : Event) (old new : MomentOf W M) → event ≡ told
      → AsksOnceBy is_after server_of handles event old new
      → AsksOnceBy is_after server_of handles told old new
  asks_as event told old new same asks =
      subst (λ (e : Event). AsksOnceBy is_after server_of handles e old new) same asks

  -- something is done that no event asks for
  pub ran_connections : (server : M) (journal : Journal) (room : ℕ)
      (exchanges : List Call) (old new : Connections W) → Carries is_after exchanges old [] new
      → RanBy is_after server_of handles exchanges [] nothing_of (at_connections server journal
      room old)
      (at_connections server journal room new)
  ran_connections server journal room exchanges old new carries = record {
    events = [];
    outs = [];
    calls = carries.calls;
    are_asked = (refl, refl);
    account = carries.account;
    exchanged = carries.exchanged;
    fates = λ conn. (carries.passage conn).fate;
    are_news = tt;
    keep_kinds = λ conn. (carries.passage conn).keeps_kind;
    hears = λ conn. (carries.passage conn).hears_none;
    tells = λ conn. tells_passage conn (connection_of old.table conn)
        (lost_at old.lost conn) carries.calls [] (connection_of new.table conn)
        (lost_at new.lost conn) (carries.passage conn);
    same_room = refl;
  }

  pub ran_gone : (server : M) (journal : Journal) (room conn : ℕ)
      (kind : ConnectionKind) (old mid : Connections W) (new : MomentOf W M) → mid.wire ≡ old.wire
      → mid.table ≡ old.table → lost_at old.lost conn ≡ Some kind → ((q : ℕ)
      → lost_at mid.lost q ≡ cond (nat_eq conn q) None (lost_at old.lost q))
      → RanBy is_after server_of handles []
      (end_event_of kind conn ∷ []) nothing_of (at_connections server journal room mid) new
      → RanOnBy is_after server_of handles (at_connections server journal room old) new
  ran_gone server journal room conn kind old mid new wire table as_lost popped ran = record {
    events = end_event_of kind conn ∷ ran.events;
    outs = ran.outs;
    calls = ran.calls;
    are_asked = ran.are_asked;
    account = subst (λ w. AddsAll is_after w ran.calls new.wire) wire ran.account;
    exchanged = ran.exchanged;
    fates = λ q. subst (λ (s : Option Connection). Fate q s ran.calls ran.outs (new.connections q))
        (at q) (ran.fates q);
    are_news = (
      an_end kind conn (kind_of_loss as_lost) refl,
      all_as (IsNews (at_connections server journal room mid))
          (IsNews (at_connections server journal room old))
          (news_before (at_connections server journal room old)
          (at_connections server journal room mid) kept) ran.events ran.are_news,
    );
    keep_kinds = λ q one is. kept q one (ran.keep_kinds q one is);
    hears = λ q. subst (λ (ls : List (List ℕ)). Hears (begun_at (connection_of old.table q)) [] ls
        (begun_at (new.connections q))) (sym (no_line_of_an_end kind conn q ran.events))
        (subst (λ (s : Option Connection). Hears (begun_at s) [] (lines_by q ran.events)
        (begun_at (new.connections q))) (at q) (ran.hears q));
    tells = λ q. gone_of kind conn q (nat_eq conn q) (is_some (lost_at old.lost q))
        (is_open_at (connection_of old.table q)) ran.events ran.outs (standing_of q new) refl
        (λ one. ap (λ p. is_some (lost_at old.lost p)) (sym (eqb-true conn q one))
        ∙ ap is_some as_lost)
        (subst (λ (l : Bool). TellsServer q (record {
          lost = l;
          is_open = is_open_at
              (connection_of old.table q);
        }) ran.events ran.outs (standing_of q new))
        (ap is_some (popped q) ∙ still_lost (nat_eq conn q) (lost_at old.lost q))
        (subst (λ (s : Option Connection). TellsServer q
        (record { lost = is_some (lost_at mid.lost q); is_open = is_open_at s }) ran.events
        ran.outs (standing_of q new)) (at q) (ran.tells q)));
    same_room = ran.same_room;
  }
    where
      at : (q : ℕ) → connection_of mid.table q ≡ connection_of old.table q
      at q = ap (λ s. connection_of s q) table

      kept : (q : ℕ) → KeepsKind (connection_of old.table q) (lost_at old.lost q)
          (connection_of mid.table q) (lost_at mid.lost q)
      kept q one (kind_of_connection is) = kind_of_connection (sym (ap kind_at (at q)) ∙ is)
      kept q one (kind_of_loss is) = by (nat_eq conn q) (sym (popped q) ∙ is)
        where
          by : (t : Bool) → cond t None (lost_at old.lost q) ≡ Some one
              → IsOfKind one (connection_of old.table q) (lost_at old.lost q)
          by true never = cc never
          by false same = kind_of_loss same

  pub ran_read : (server : M) (journal : Journal) (old new : Connections W)
      (size later conn room : ℕ) (answer : Result Got IoFault) (bytes : List ℕ) (n : ℕ)
      → came answer ≡ Some n → Adds is_after old.wire (reads conn room answer bytes) new.wire
      → new.table ≡ old.table → new.lost ≡ old.lost → later ≡ size
      → RanBy is_after server_of handles (reads conn room answer bytes ∷ []) [] nothing_of
      (at_connections server journal size old) (at_connections server journal later new)
  ran_read server journal old new size later conn room answer bytes n is account table lost
      as_large = record {
        events = [];
        outs = [];
        calls = reads conn room answer bytes ∷ [];
        are_asked = (refl, refl);
        account = account;
        exchanged = refl;
        fates = λ q. subst (λ (s : Option Connection). Fate q (connection_of old.table q)
            (reads conn room answer bytes ∷ []) [] s) (sym (at q))
            (untouched_fate q (reads conn room answer bytes ∷ []) []
            (goes_by conn room answer bytes n is q) (connection_of old.table q));
        are_news = tt;
        keep_kinds = λ q. kind_kept (connection_of old.table q) (connection_of new.table q)
            (lost_at old.lost q) (lost_at new.lost q) (ap kind_at (at q))
            (ap (λ l. lost_at l q) lost);
        hears = λ q. hears_same (begun_at (connection_of old.table q))
            (begun_at (connection_of new.table q)) (ap begun_at (at q));
        tells = λ q. tells_as q (standing_of q (at_connections server journal size old))
            (standing_of q (at_connections server journal later new))
            (ap (λ l. is_some (lost_at l q)) lost) (ap is_open_at (at q));
        same_room = as_large;
      }
    where
      at : (q : ℕ) → connection_of new.table q ≡ connection_of old.table q
      at q = ap (λ s. connection_of s q) table

  pub ran_cut : (server : M) (journal : Journal) (size later : ℕ)
      (old mid new : Connections W) (conn room : ℕ) (answer : Result Got IoFault) (bytes : List ℕ)
      → came answer ≡ None → is_open_at (connection_of old.table conn) ≡ true
      → Adds is_after old.wire (reads conn room answer bytes) mid.wire
      → mid.table ≡ old.table → mid.lost ≡ old.lost → Loses is_after conn mid new
      → later ≡ size → RanBy is_after server_of handles (reads conn room answer bytes ∷ []) []
      nothing_of
      (at_connections server journal size old) (at_connections server journal later new)
  ran_cut server journal size later old mid new conn room answer bytes is is_open account same
      same_lost loses as_large = record {
        events = [];
        outs = [];
        calls = calls;
        are_asked = (refl, refl);
        account = adds_both is_after old.wire mid.wire new.wire (reads conn room answer bytes ∷ [])
            (closes conn ∷ []) account loses.account;
        exchanged = refl;
        fates = fate_of_one conn (connection_of old.table) (connection_of new.table) calls []
            (set_other (connection_of old.table) (connection_of new.table) conn None set)
            (λ q two. elsewhere_both q (reads conn room answer bytes ∷ []) (closes conn ∷ []) [] []
            (cut_elsewhere conn room answer bytes is q two) (close_elsewhere conn q two))
            (subst (λ (s : Option Connection). Fate conn (connection_of old.table conn) calls [] s)
            (sym (set_here (connection_of old.table) (connection_of new.table) conn None set))
            (here (connection_of old.table conn) is_open));
        are_news = tt;
        keep_kinds = λ q. kind_cut q (nat_eq conn q) refl;
        hears =
            λ q. subst (λ (s : Option Connection). Hears (begun_at (connection_of old.table q)) []
            [] (begun_at s)) (sym (set q)) (hears_cut (nat_eq conn q) (connection_of old.table q));
        tells = λ q. tells_cut q (nat_eq conn q) refl;
        same_room = as_large;
      }
    where
      calls : List Call
      calls = reads conn room answer bytes ∷ closes conn ∷ []

      set : (q : ℕ) → connection_of new.table q ≡ cond (nat_eq conn q) None
          (connection_of old.table q)
      set q = loses.table q ∙ ap (λ s. cond (nat_eq conn q) None (connection_of s q)) same

      hears_cut : (t : Bool) (s : Option Connection)
          → Hears (begun_at s) [] [] (begun_at (cond t None s))
      hears_cut true s = hears_gone (begun_at s)
      hears_cut false s = hears_kept (begun_at s)

      lost_as : (q : ℕ) → lost_at new.lost q ≡ lost_by (nat_eq conn q)
          (connection_of old.table conn) (lost_at old.lost q)
      lost_as q = loses.lost q
          ∙ ap (λ l. lost_by (nat_eq conn q) (connection_of mid.table conn) (lost_at l q)) same_lost
          ∙ ap (λ s. lost_by (nat_eq conn q) (connection_of s conn) (lost_at old.lost q)) same

      lost_is : (q : ℕ) → is_some (lost_at new.lost q) ≡ (is_some (lost_at old.lost q)
          || (nat_eq conn q && is_open_at (connection_of old.table conn)))
      lost_is q = ap is_some (lost_as q)
          ∙ some_lost (nat_eq conn q) (connection_of old.table conn) (lost_at old.lost q)

      kind_cut : (q : ℕ) (t : Bool) → nat_eq conn q ≡ t → KeepsKind (connection_of old.table q)
          (lost_at old.lost q) (connection_of new.table q) (lost_at new.lost q)
      kind_cut q true one =
          subst (λ (s : Option Connection). KeepsKind (connection_of old.table q)
          (lost_at old.lost q) s (lost_at new.lost q))
          (sym (set q ∙ ap (λ t. cond t None (connection_of old.table q)) one))
          (kind_of_lost (connection_of old.table q) (lost_at old.lost q) (lost_at new.lost q)
          (nat_eq conn q)
          (lost_as q ∙ ap (λ p. lost_by (nat_eq conn q) (connection_of old.table p)
          (lost_at old.lost q)) (eqb-true conn q one)))
      kind_cut q false two =
          kind_kept (connection_of old.table q) (connection_of new.table q) (lost_at old.lost q)
          (lost_at new.lost q)
          (ap kind_at (set q) ∙ ap (λ t. kind_at (cond t None (connection_of old.table q))) two)
          (lost_as q ∙ ap (λ t. lost_by t (connection_of old.table conn) (lost_at old.lost q)) two)

      tells_cut : (q : ℕ) (t : Bool) → nat_eq conn q ≡ t
          → TellsServer q (standing_of q (at_connections server journal size old)) [] []
          (standing_of q (at_connections server journal later new))
      tells_cut q true one =
          subst (λ (l : Bool). TellsServer q
          (standing_of q (at_connections server journal size old)) [] [] (record {
            lost = l;
            is_open = is_open_at (connection_of new.table q);
          })) (sym (lost_is q))
          (subst (λ (s : Option Connection).
          TellsServer q (standing_of q (at_connections server journal size old)) [] []
          (record {
            lost = is_some (lost_at old.lost q) || (nat_eq conn q && is_open_at
                (connection_of old.table conn));
            is_open = is_open_at s;
          })) (sym (set q))
          (lost_now q (is_some (lost_at old.lost q)) (is_open_at (connection_of old.table q))
          (nat_eq conn q) (is_open_at (connection_of old.table conn))
          (connection_of old.table q) one
          (ap (λ p. is_open_at (connection_of old.table p)) (sym (eqb-true conn q one))
          ∙ is_open) is_open))
      tells_cut q false two =
          tells_as q (standing_of q (at_connections server journal size old))
          (standing_of q (at_connections server journal later new))
          (lost_is q ∙ ap (λ t. is_some (lost_at old.lost q) || (t && is_open_at
          (connection_of old.table conn))) two ∙ or-false (is_some (lost_at old.lost q)))
          (ap is_open_at (set q)
          ∙ ap (λ t. is_open_at (cond t None (connection_of old.table q))) two)

      here : (s : Option Connection) → is_open_at s ≡ true
          → Fate conn s (reads conn room answer bytes ∷ closes conn ∷ []) [] None
      here None never = cc never
      here (Some connection) is_open = record {
        left = connection.outbox.bytes ++ bytes_owed (is_some connection.framer) conn [];
        carried = refl;
        once = last_close conn;
        why = cut_off (cut_here conn room answer bytes is);
      }

  -- A framer has taken bytes, and the line that they complete is passed on.
  pub ran_framed : (server : M) (journal : Journal) (size : ℕ) (old mid : Connections W)
      (new : MomentOf W M) (conn : ℕ) (piece : List ℕ) (used : ℕ) (kind : ConnectionKind)
      (line : Option (ArrayVec ℕ))
      (result : Option (ℕ × ConnectionKind × Option (ArrayVec ℕ)))
      → result ≡ Some (used, kind, line)
      → FramesAt conn piece old.table result mid.table → mid.wire ≡ old.wire
      → mid.lost ≡ old.lost
      → RanBy is_after server_of handles [] (passed_on kind conn line) nothing_of
      (at_connections server journal size mid) new
      → RanBy is_after server_of handles [] [] (only_of conn (take used piece))
      (at_connections server journal size old) new
  ran_framed server journal size old mid new conn piece used kind line result is frames wire lost
      ran = by (subst (λ r. FramesAt conn piece old.table r mid.table) is frames)
    where
      by : FramesAt conn piece old.table (Some (used, kind, line)) mid.table
          → RanBy is_after server_of handles [] []
          (only_of conn (take used piece)) (at_connections server journal size old) new
      by (no_connection none same never) = cc never
      by (at_connection connection now was set so) = record {
        events = passed_on kind conn line ++ ran.events;
        outs = ran.outs;
        calls = ran.calls;
        are_asked = ran.are_asked;
        account = subst (λ w. AddsAll is_after w ran.calls new.wire) wire ran.account;
        exchanged = ran.exchanged;
        fates = λ q. fate_on q [] ran.calls [] ran.outs (connection_of old.table q)
            (connection_of mid.table q) (new.connections q)
            (fate_of_one conn (connection_of old.table) (connection_of mid.table) [] [] (set_other
            (connection_of old.table) (connection_of mid.table) conn (Some now) set)
            (λ q two. record {
              silent = record { nothing = refl; never = refl };
              never_cut = refl;
              nothing = refl;
              never_closed = refl;
            })
            (subst (λ (s : Option Connection). Fate conn s [] [] (connection_of mid.table conn))
            (sym was)
            (subst (λ (s : Option Connection). Fate conn (Some connection) [] [] s) (sym is_now)
            (record {
              carried = ap (λ xs. connection.outbox.bytes ++ xs) (nothing_owed
                  (is_some connection.framer) conn [] refl) ∙ append-nil connection.outbox.bytes
                  ∙ sym (ap (λ (s : Connection). s.outbox.bytes) so.is);
              same_room = ap (λ (s : Connection). s.outbox.room) so.is;
              still_open = ap (λ (s : Connection). is_some s.framer) so.is ∙ sym (ap is_some so.was)
                  ∙ and_not (is_some connection.framer) false refl;
              never = refl;
              never_cut = refl;
            }))) q)
            (ran.fates q);
        are_news = all_both (IsNews (at_connections server journal size old))
            (passed_on kind conn line) ran.events (line_is_news line)
            (all_as (IsNews (at_connections server journal size mid))
            (IsNews (at_connections server journal size old)) (news_before (at_connections
            server journal size old) (at_connections server journal size mid) kept)
            ran.events ran.are_news);
        keep_kinds = λ q one is. kept q one (ran.keep_kinds q one is);
        hears = λ q.
            subst (λ (ls : List (List ℕ)). Hears (begun_at (connection_of old.table q))
            (only_of conn (take used piece) q) ls (begun_at (new.connections q)))
            (sym (lines_by-append q (passed_on kind conn line) ran.events))
            (subst (λ (bs : List ℕ). Hears (begun_at (connection_of old.table q)) bs
            (lines_by q (passed_on kind conn line) ++ lines_by q ran.events)
            (begun_at (new.connections q)))
            (append-nil (only_of conn (take used piece) q))
            (hears_on (begun_at (connection_of old.table q)) (begun_at (connection_of mid.table q))
            (begun_at (new.connections q)) (only_of conn (take used piece) q) []
            (lines_by q (passed_on kind conn line)) (lines_by q ran.events)
            (framed q (nat_eq conn q) refl) (ran.hears q)));
        tells = λ q. subst (λ (s : ConnectionState). TellsServer q s (passed_on kind conn line
            ++ ran.events) ran.outs (standing_of q new)) (same_standing q)
            (told_by_no_line q kind conn line (standing_of q (at_connections server journal size
            mid)) (standing_of q new) ran.events ran.outs (ran.tells q));
        same_room = ran.same_room;
      }
        where
          is_now : connection_of mid.table conn ≡ Some now
          is_now = set_here (connection_of old.table) (connection_of mid.table) conn (Some now) set

          line_is_news : (line : Option (ArrayVec ℕ)) → AllByRecursion
              (IsNews (at_connections server journal size old)) (passed_on kind conn line)
          line_is_news None = tt
          line_is_news (Some l) = (
            a_line kind conn l
                (kind_of_connection (ap kind_at was ∙ ap Some (sym so.kind_is))) refl,
            tt,
          )

          kind_as : (q : ℕ) (t : Bool) → nat_eq conn q ≡ t
              → kind_at (connection_of mid.table q) ≡ kind_at (connection_of old.table q)
          kind_as q true one =
              ap (λ p. kind_at (connection_of mid.table p)) (sym (eqb-true conn q one))
              ∙ ap kind_at is_now ∙ ap (λ (s : Connection). Some s.kind) so.is
              ∙ sym (ap kind_at was)
              ∙ ap (λ p. kind_at (connection_of old.table p)) (eqb-true conn q one)
          kind_as q false two = ap kind_at (set_other (connection_of old.table)
              (connection_of mid.table) conn (Some now) set q two)

          kept : (q : ℕ) → KeepsKind (connection_of old.table q) (lost_at old.lost q)
              (connection_of mid.table q) (lost_at mid.lost q)
          kept q = kind_kept (connection_of old.table q) (connection_of mid.table q)
              (lost_at old.lost q) (lost_at mid.lost q) (kind_as q (nat_eq conn q) refl)
              (ap (λ l. lost_at l q) lost)

          open_as : (q : ℕ) (t : Bool) → nat_eq conn q ≡ t
              → is_open_at (connection_of mid.table q) ≡ is_open_at (connection_of old.table q)
          open_as q true one =
              ap (λ p. is_open_at (connection_of mid.table p)) (sym (eqb-true conn q one))
              ∙ ap is_open_at is_now ∙ ap (λ (s : Connection). is_some s.framer) so.is
              ∙ sym (ap is_some so.was)
              ∙ sym (ap is_open_at was)
              ∙ ap (λ p. is_open_at (connection_of old.table p)) (eqb-true conn q one)
          open_as q false two = ap is_open_at (set_other (connection_of old.table)
              (connection_of mid.table) conn (Some now) set q two)

          same_standing : (q : ℕ) → standing_of q (at_connections server journal size mid)
              ≡ standing_of q (at_connections server journal size old)
          same_standing q = ap (λ l. record {
            lost = is_some (lost_at l q);
            is_open = is_open_at (connection_of mid.table q);
          }) lost
              ∙ ap (λ o. record { lost = is_some (lost_at old.lost q); is_open = o })
              (open_as q (nat_eq conn q) refl)

          framed : (q : ℕ) (t : Bool) → nat_eq conn q ≡ t
              → Hears (begun_at (connection_of old.table q)) (only_of conn (take used piece) q)
              (lines_by q (passed_on kind conn line)) (begun_at (connection_of mid.table q))
          framed q true one =
              subst (λ p. Hears (begun_at (connection_of old.table p))
              (only_of conn (take used piece) p) (lines_by p (passed_on kind conn line))
              (begun_at (connection_of mid.table p)))
              (eqb-true conn q one)
              (subst (λ (s : Option Connection). Hears (begun_at s) (only_of conn
              (take used piece) conn) (lines_by conn (passed_on kind conn line))
              (begun_at (connection_of mid.table conn))) (sym was)
              (subst (λ (s : Option Connection).
              Hears connection.framer (only_of conn (take used piece) conn)
              (lines_by conn (passed_on kind conn line)) (begun_at s)) (sym is_now)
              (subst (λ (bs : List ℕ). Hears connection.framer bs (lines_by conn (passed_on kind
              conn line)) now.framer) (sym (at_once conn (take used piece) []))
              (subst (λ (ls : List (List ℕ)). Hears connection.framer
              (take used piece) ls now.framer) (sym (lines_here kind conn line))
              (subst (λ (b : Option Begun). Hears b (take used piece) (found_in line) now.framer)
              (sym so.was)
              (subst (λ (b : Option Begun). Hears (Some so.before) (take used piece) (found_in line)
              b) (sym (ap (λ (s : Connection). s.framer) so.is)) so.takes))))))
          framed q false two =
              subst (λ (bs : List ℕ). Hears (begun_at (connection_of old.table q)) bs
              (lines_by q (passed_on kind conn line)) (begun_at (connection_of mid.table q)))
              (sym (ap (λ t. cond t (take used piece) []) two))
              (subst (λ (ls : List (List ℕ)). Hears (begun_at (connection_of old.table q)) [] ls
              (begun_at (connection_of mid.table q)))
              (sym (lines_elsewhere kind conn q line two))
              (hears_same (begun_at (connection_of old.table q))
              (begun_at (connection_of mid.table q))
              (ap begun_at (set_other (connection_of old.table) (connection_of mid.table) conn
              (Some now) set q two))))

  -- bytes come of a connection that is not open
  pub ran_refused : (server : M) (journal : Journal) (size : ℕ) (old new : Connections W)
      (conn : ℕ) (piece bytes : List ℕ) (result : Option (ℕ × ConnectionKind × Option (ArrayVec ℕ)))
      → result ≡ None → FramesAt conn piece old.table result new.table
      → new.wire ≡ old.wire → new.lost ≡ old.lost → RanBy is_after server_of handles [] [] (only_of
      conn bytes)
      (at_connections server journal size old) (at_connections server journal size new)
  ran_refused server journal size old new conn piece bytes result is frames wire lost =
      by (subst (λ r. FramesAt conn piece old.table r new.table) is frames)
    where
      so_then : begun_at (connection_of old.table conn) ≡ None
          → ((q : ℕ) → connection_of new.table q ≡ connection_of old.table q)
          → RanBy is_after server_of handles [] [] (only_of conn bytes) (at_connections server
          journal size old)
          (at_connections server journal size new)
      so_then closed same = record {
        events = [];
        outs = [];
        calls = [];
        are_asked = (refl, refl);
        account = adds_none is_after old.wire new.wire wire;
        exchanged = refl;
        fates = λ q. subst (λ (s : Option Connection). Fate q (connection_of old.table q) [] [] s)
            (sym (same q)) (same_fate q (connection_of old.table q));
        are_news = tt;
        keep_kinds = λ q. kind_kept (connection_of old.table q) (connection_of new.table q)
            (lost_at old.lost q) (lost_at new.lost q) (ap kind_at (same q))
            (ap (λ l. lost_at l q) lost);
        hears = λ q. subst (λ (s : Option Connection). Hears (begun_at (connection_of old.table q))
            (only_of conn bytes q) [] (begun_at s)) (sym (same q)) (deaf q (nat_eq conn q) refl);
        tells = λ q. tells_as q (standing_of q (at_connections server journal size old))
            (standing_of q (at_connections server journal size new))
            (ap (λ l. is_some (lost_at l q)) lost) (ap is_open_at (same q));
        same_room = refl;
      }
        where
          deaf : (q : ℕ) (t : Bool) → nat_eq conn q ≡ t
              → Hears (begun_at (connection_of old.table q)) (only_of conn bytes q) []
              (begun_at (connection_of old.table q))
          deaf q true one = hears_deaf (only_of conn bytes q) (begun_at (connection_of old.table q))
              (ap (λ p. begun_at (connection_of old.table p)) (sym (eqb-true conn q one))
              ∙ closed)
          deaf q false two = subst (λ (bs : List ℕ). Hears
              (begun_at (connection_of old.table q)) bs [] (begun_at (connection_of old.table q)))
              (sym (ap (λ t. cond t bytes []) two))
              (hears_kept (begun_at (connection_of old.table q)))

      as_before : (q : ℕ) (connection now : Connection) (t : Bool) → nat_eq conn q ≡ t
          → connection_of old.table conn ≡ Some connection → now ≡ connection
          → connection_of new.table q ≡ cond (nat_eq conn q) (Some now) (connection_of old.table q)
          → connection_of new.table q ≡ connection_of old.table q
      as_before q connection now true one was now_is set =
          set ∙ ap (λ t. cond t (Some now) (connection_of old.table q)) one ∙ ap Some now_is
          ∙ sym was ∙ ap (λ p. connection_of old.table p) (eqb-true conn q one)
      as_before q connection now false two was now_is set =
          set ∙ ap (λ t. cond t (Some now) (connection_of old.table q)) two

      by : FramesAt conn piece old.table None new.table
          → RanBy is_after server_of handles [] [] (only_of conn bytes)
          (at_connections server journal size old) (at_connections server journal size new)
      by (no_connection none same never) = so_then (ap begun_at none) same
      by (at_connection connection now was set so) = so_then (ap begun_at was ∙ so.0)
          (λ q. as_before q connection now (nat_eq conn q) refl was so.1 (set q))

  -- what a read gave is heard
  pub ran_fed : (exchanges : List Call) (conn : ℕ) (answer : Result Got IoFault)
      (buffer after : List ℕ) (n : ℕ) (old mid new : MomentOf W M) → came answer ≡ Some n
      → take n after ≡ take n buffer → RanBy is_after server_of handles exchanges [] nothing_of old
      mid
      → RanBy is_after server_of handles [] [] (only_of conn (take n after)) mid new
      → RanBy is_after server_of handles exchanges [] (only_of conn (bytes_got answer buffer)) old
      new
  ran_fed exchanges conn answer buffer after n old mid new is same one other =
      ran_then exchanges [] nothing_of (only_of conn (take n after))
      (only_of conn (bytes_got answer buffer)) old mid new
      (λ q. ap (λ bs. only_of conn bs q) (got answer buffer n is ∙ sym same)) one other

  -- a read that ended or failed gave nothing
  pub ran_ended : (exchanges : List Call) (conn : ℕ) (answer : Result Got IoFault) (buffer : List ℕ)
      (old new : MomentOf W M) → came answer ≡ None → RanBy is_after server_of handles exchanges []
      nothing_of old new
      → RanBy is_after server_of handles exchanges [] (only_of conn (bytes_got answer buffer)) old
      new
  ran_ended exchanges conn answer buffer old new is ran =
      ran_then exchanges [] nothing_of nothing_of
      (only_of conn (bytes_got answer buffer)) old new new
      (λ q. ap (λ bs. only_of conn bs q) (got_none answer buffer is) ∙ none_of (nat_eq conn q)) ran
      (ran_none new)

  -- no bytes have come so far
  pub ran_unfed : (conn : ℕ) (old : MomentOf W M) → RanBy is_after server_of handles [] [] (only_of
      conn []) old old
  ran_unfed conn old = ran_then [] [] nothing_of nothing_of (only_of conn []) old old old
      (λ q. none_of (nat_eq conn q)) (ran_none old) (ran_none old)

  -- bytes at the front of a piece are heard, behind those before them
  pub ran_step : (start mid new : MomentOf W M) (conn : ℕ) (buffer piece : List ℕ)
      (used more count : ℕ)
      → piece ≡ slice_range buffer used count → used ≤ count → more ≤ length piece
      → RanBy is_after server_of handles [] [] (only_of conn (take used buffer)) start mid
      → RanBy is_after server_of handles [] [] (only_of conn (take more piece)) mid new
      → RanBy is_after server_of handles [] [] (only_of conn (take (used + more) buffer)) start new
  ran_step start mid new conn buffer piece used more count is within fits one other =
      ran_then [] [] (only_of conn (take used buffer)) (only_of conn (take more piece))
      (only_of conn (take (used + more) buffer)) start mid new
      (λ q. ap (λ bs. only_of conn bs q) (front_of buffer piece used more count is within fits)
      ∙ only_both (nat_eq conn q) (take used buffer) (take more piece)) one other

  -- what is left of the bytes comes of a connection that is not open
  pub ran_rest : (start mid new : MomentOf W M) (conn : ℕ) (buffer : List ℕ) (used count : ℕ)
      → used ≤ count → RanBy is_after server_of handles [] [] (only_of conn (take used buffer))
      start mid
      → RanBy is_after server_of handles [] [] (only_of conn (take (count - used) (drop used
      buffer))) mid new
      → RanBy is_after server_of handles [] [] (only_of conn (take count buffer)) start new
  ran_rest start mid new conn buffer used count within one other =
      ran_then [] [] (only_of conn (take used buffer)) (only_of conn (take (count - used)
      (drop used buffer))) (only_of conn (take count buffer)) start mid new
      (λ q. ap (λ bs. only_of conn bs q) (front_whole buffer used count within)
      ∙ only_both (nat_eq conn q) (take used buffer)
      (take (count - used) (drop used buffer))) one other

  pub ran_no_line : (kind : ConnectionKind) (conn : ℕ) (line : Option (ArrayVec ℕ))
      (now : MomentOf W M)
      → line ≡ None → RanBy is_after server_of handles [] (passed_on kind conn line) nothing_of now
      now
  ran_no_line kind conn line now none = subst (λ (o : Option (ArrayVec ℕ)). RanBy is_after
      server_of handles []
      (passed_on kind conn o) nothing_of now now) (sym none) (ran_none now)

module _ {W M : Type 0} (is_after : W → List Call → Type 0) (server_of : M → Option View)
    (handles : Handles M) where
  -- something was due, and what was put out by it is done
  pub due_carried : (dues : Dues M) (server after : M) (moment : ℕ) (journal written : Journal)
      (room : ℕ) (old mid : Connections W) (before outs : List Sent) (new : MomentOf W M)
      → before ≡ [] → (length outs ≡ 0 → ⊥) → IsDue dues server moment before (Ok tt) after outs
      → EntersAll (out_signs outs) journal written → Carries is_after [] old outs mid
      → RanOnBy is_after server_of handles (at_connections after written room mid) new
      → IsDoneBy is_after server_of handles dues (at_connections server journal room old) new
  due_carried never_due server after moment journal written room old mid before outs new none
      some due closed carries losses = absurd (some (ap length (due.2 ∙ none)))
  due_carried (due_by is_due) server after moment journal written room old mid before outs new
      none some due closed carries losses = record {
        moment = moment;
        between = at_connections after written room mid;
        outs = outs;
        calls = carries.calls;
        was_due = subst (λ (os : List Sent). is_due server moment os (Ok tt) after outs) none due;
        is_noted = closed;
        account = carries.account;
        exchanged = carries.exchanged;
        fates = λ conn. (carries.passage conn).fate;
        keep_kinds = λ conn. (carries.passage conn).keeps_kind;
        hears = λ conn. (carries.passage conn).hears_none;
        tells = λ conn. tells_passage conn (connection_of old.table conn)
            (lost_at old.lost conn) carries.calls outs (connection_of mid.table conn)
            (lost_at mid.lost conn) (carries.passage conn);
        same_room = refl;
        losses = losses;
      }

  -- nothing was put out
  pub due_quiet : (dues : Dues M) (server after : M) (moment : ℕ) (journal : Journal)
      (room : ℕ) (connections : Connections W) (before outs : List Sent) → before ≡ []
      → IsDue dues server moment before (Ok tt) after outs → outs ≡ []
      → IsDoneBy is_after server_of handles dues (at_connections server journal room connections)
      (at_connections after journal room connections)
  due_quiet never_due server after moment journal room connections before outs none due quiet =
      ap (λ (m : M). at_connections m journal room connections) due.1
  due_quiet (due_by is_due) server after moment journal room connections before outs none due
      quiet = record {
        moment = moment;
        between = at_connections after journal room connections;
        outs = [];
        calls = [];
        was_due = subst (λ (os : List Sent). is_due server moment os (Ok tt) after []) none
            (subst (λ (os : List Sent). is_due server moment before (Ok tt) after os) quiet due);
        is_noted = refl;
        account = adds_none is_after connections.wire connections.wire refl;
        exchanged = refl;
        fates = λ conn. same_fate conn (connection_of connections.table conn);
        keep_kinds = λ conn kind is. is;
        hears = λ conn. hears_kept (begun_at (connection_of connections.table conn));
        tells = λ conn. tells_still conn
            (standing_of conn (at_connections server journal room connections));
        same_room = refl;
        losses = ran_none is_after _;
      }
