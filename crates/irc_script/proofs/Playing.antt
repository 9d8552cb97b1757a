-- What was played, put together.
use Rattle.std.proofs.Common.{◌≡◌, ℕ, ◌+◌, ◌<◌, get_or, Option, Result, Ok, Err, IsErrAnd, List, []}
use Rattle.std.proofs.Common.{◌∷◌, ◌++◌, length, take, drop, map, ap, sym, subst, refl, ◌∙◌}
use Rattle.std.proofs.Common.{append_assoc}
use Rattle.std.proofs.lemmas.List.{append-nil}
use Rattle.std.specs.Io.KnownBytes.{Keeps}
use Rattle.std.specs.List.{AllByRecursion}
use Rattle.arrayvec.specs.ArrayVec.{ArrayVec}
use Rattle.irc_line.specs.Carried.{IsCarried}
use Rattle.irc_line.specs.Framed.{bytes_of}
use Rattle.irc_net.specs.ByteNetwork.{ByteNetwork}
use Rattle.irc_script.specs.declared.fault.Trouble.{Trouble}
use Rattle.irc_script.specs.declared.fault.Trouble.TheVariants.{Memory, Device}
use Rattle.irc_script.specs.declared.fault.Unwritten.{Unwritten}
use Rattle.irc_script.specs.Faults.{of_writing}
use Rattle.irc_script.specs.Loops.Steps.{Played, Breaks, IsPlayed, IsPut, RunWhole, RunInto, HasRun}
use Rattle.irc_script.specs.Loops.Steps.{Begins, to_the_end, partly, further}
use Rattle.irc_script.specs.Moves.{Move, gives_line, moves_of}
use Rattle.irc_script.specs.Runs.{Comes, MoveOutcome, Plays, nothing, move, Runs, end, request}
use Rattle.irc_script.specs.Runs.{StopsIn, in_first, in_later}
use Rattle.irc_script.specs.Scripts.{Request}
use Rattle.irc_script.specs.ScriptViews.{requests, request as request_now}
use Rattle.irc_script.specs.declared.commands.ScriptCommand.{ScriptCommand}
use Rattle.std.proofs.lemmas.List.{take_more, map-append, take-append-drop, drop_more}
use Rattle.irc_script.specs.Sinks.{Sink, sink, Prints, Loses, IsPrinted}
use Rattle.irc_script.specs.Lemmas.Sinking.{prints_nothing, prints_both, prints_loses, no_loss}
use Rattle.irc_script.specs.Lemmas.Sinking.{all_lost, loses_on, prints_kept, loses_kept}

-- a line as the code has it, given
abbrev pub gives_now : ℕ → ArrayVec ℕ → Move
gives_now client line = gives_line client line.items

pub moves_of_lines : (client : ℕ) (lines : List (ArrayVec ℕ))
    → map (gives_now client) lines ≡ map (gives_line client) (bytes_of lines)
moves_of_lines client [] = refl
moves_of_lines client (line ∷ lines) =
    ap (λ moves. gives_line client line.items ∷ moves) (moves_of_lines client lines)

pub plays_both : {a b c : ByteNetwork} {xs ys : List Move} {s t : List ℕ} → Plays a xs b s
    → Plays b ys c t → Plays a (xs ++ ys) c (s ++ t)
plays_both nothing q = q
plays_both {t = t} (move outcome comes e p) q =
    move outcome comes (ap (λ bytes. bytes ++ t) e ∙ append_assoc outcome.text _ t) (plays_both p q)

pub played_nothing : (first : ByteNetwork) (known : Sink) → Played first [] first known known
played_nothing first known = record { text = []; plays = nothing; prints = prints_nothing known }

pub played_both : {a b c : ByteNetwork} {xs ys : List Move} {old middle new : Sink}
    → Played a xs b old middle → Played b ys c middle new → Played a (xs ++ ys) c old new
played_both p q = record {
  text = p.text ++ q.text;
  plays = plays_both p.plays q.plays;
  prints = prints_both p.prints q.prints;
}

-- printing takes no memory
pub put_as : (r : Result (Unit {0}) Trouble) (w : Result (Unit {0}) Unwritten) (old new : Sink)
    (text : List ℕ) → r ≡ of_writing w → IsPrinted w old new text → IsPut r old new text
put_as r (Ok done) old new text is p = subst (λ x. IsPut x old new text) (sym is) p
put_as r (Err fault) old new text is p = subst (λ x. IsPut x old new text) (sym is) p

-- one move, by what comes of it
pub played_one : (r : Result (Unit {0}) Trouble) (first : ByteNetwork) (m : Move)
    (outcome : MoveOutcome) (old new : Sink) → Comes first m outcome → IsPut r old new outcome.text
    → IsPlayed r first (m ∷ []) outcome.network old new
played_one (Ok _) first m outcome old new comes p =
    record {
      text = outcome.text;
      plays = move outcome comes (sym (append-nil outcome.text)) nothing;
      prints = p;
    }
played_one (Err Memory) first m outcome old new comes p = absurd p
played_one (Err Device) first m outcome old new comes p = record {
  moves = m ∷ [];
  left = [];
  parts = refl;
  last = outcome.network;
  text = outcome.text;
  plays = move outcome comes (sym (append-nil outcome.text)) nothing;
  loses = p;
  kept = λ is. cc is;
}

-- no move was made
pub breaks_first : (trouble : Trouble) (first : ByteNetwork) (moves : List Move) (known : Sink)
    → Breaks trouble first moves known known
breaks_first trouble first moves known =
    record {
      moves = [];
      left = moves;
      parts = refl;
      last = first;
      text = [];
      plays = nothing;
      loses = all_lost known [];
      kept = λ is. refl;
    }

-- a move breaks behind others, and some are left
pub breaks_behind : {trouble : Trouble} {a b : ByteNetwork} {xs ys : List Move}
    {old middle new : Sink} (left : List Move) → Played a xs b old middle
    → Breaks trouble b ys middle new → Breaks trouble a (xs ++ (ys ++ left)) old new
breaks_behind {xs = xs} left p q = record {
  moves = xs ++ q.moves;
  left = q.left ++ left;
  parts = ap (λ zs. xs ++ (zs ++ left)) q.parts ∙ ap (λ zs. xs ++ zs)
      (append_assoc q.moves q.left left) ∙ sym (append_assoc xs q.moves (q.left ++ left));
  last = q.last;
  text = p.text ++ q.text;
  plays = plays_both p.plays q.plays;
  loses = prints_loses p.prints q.loses;
  kept = q.kept;
}

runs_both : {a b c : ByteNetwork} {xs ys : List Request} {s t : List ℕ} → Runs a xs b s
    → Runs b ys c t → Runs a (xs ++ ys) c (s ++ t)
runs_both end q = q
runs_both {t = t} (request {start = start} e p r) q =
    request (ap (λ bytes. bytes ++ t) e ∙ append_assoc start _ t) p (runs_both r q)

pub run_nothing : (first : ByteNetwork) (known : Sink) → RunWhole first [] first known known
run_nothing first known = record { text = []; runs = end; prints = prints_nothing known }

pub run_more : (r : Request) {a b c : ByteNetwork} {xs : List Request} {old middle new : Sink}
    → RunWhole a xs b old middle → Played b (moves_of r) c middle new
    → RunWhole a (xs ++ r ∷ []) c old new
run_more r p q = record {
  text = p.text ++ q.text;
  runs = runs_both p.runs (request (sym (append-nil q.text)) q.plays end);
  prints = prints_both p.prints q.prints;
}

-- behind what was run something is begun
begins_behind : {a b : ByteNetwork} {xs ys : List Request} {s t : List ℕ} → Runs a xs b s
    → Begins b ys t → Begins a (xs ++ ys) (s ++ t)
begins_behind end q = q
begins_behind {t = t} (request {start = start} e p r) q =
    further (ap (λ bytes. bytes ++ t) e ∙ append_assoc start _ t) p (begins_behind r q)

stops_behind : {a b : ByteNetwork} {xs ys : List Request} {s t : List ℕ} → Runs a xs b s
    → StopsIn b ys t → StopsIn a (xs ++ ys) (s ++ t)
stops_behind end q = q
stops_behind {t = t} (request {start = start} e p r) q =
    in_later (ap (λ bytes. bytes ++ t) e ∙ append_assoc start _ t) p (stops_behind r q)

pub run_into : (r : Request) (left : List Request) {trouble : Trouble} {a b : ByteNetwork}
    {xs : List Request} {old middle new : Sink} → RunWhole a xs b old middle
    → Breaks trouble b (moves_of r) middle new → RunInto trouble a (xs ++ r ∷ left) old new
run_into r left p q = record {
  text = p.text ++ q.text;
  begins = begins_behind p.runs (partly q.moves q.left q.parts q.plays);
  loses = prints_loses p.prints q.loses;
  whole = λ is. record {
    stops = stops_behind p.runs (in_first q.moves q.left q.parts q.plays);
    kept = q.kept is;
  };
}

-- what is run is begun
begins_all : {a b : ByteNetwork} {xs : List Request} {s : List ℕ} → Runs a xs b s → Begins a xs s
begins_all end = to_the_end
begins_all (request e p r) = further e p (begins_all r)

pub run_loses : {a b : ByteNetwork} {xs : List Request} {old new : Sink} → RunWhole a xs b old new
    → RunInto Device a xs old new
run_loses p = record {
  text = p.text;
  begins = begins_all p.runs;
  loses = no_loss p.prints;
  whole = λ is. cc is;
}

-- what waits is written behind a run, or lost
pub run_on : {a b : ByteNetwork} {xs : List Request} {old middle new : Sink}
    → RunWhole a xs b old middle → Prints middle new [] → RunWhole a xs b old new
run_on {old = old} {new = new} p q =
    record {
      text = p.text;
      runs = p.runs;
      prints = subst (λ text. Prints old new text)
          (append-nil p.text) (prints_both p.prints q);
    }

pub run_into_on : {trouble : Trouble} {a : ByteNetwork} {xs : List Request} {old middle new : Sink}
    → RunInto trouble a xs old middle → Loses middle new [] → RunInto Device a xs old new
run_into_on p q =
    record { text = p.text; begins = p.begins; loses = loses_on p.loses q; whole = λ is. cc is }

-- what waits is written behind a run that was broken off
pub run_into_kept : {trouble : Trouble} {a : ByteNetwork} {xs : List Request}
    {old middle new : Sink} → RunInto trouble a xs old middle → Prints middle new []
    → RunInto trouble a xs old new
run_into_kept p q = record {
  text = p.text;
  begins = p.begins;
  loses = loses_on p.loses (no_loss q);
  whole = λ is. record { stops = (p.whole is).stops; kept = (p.whole is).kept };
}

-- a writer is flushed behind a run
pub run_flushed : (r : Result (Unit {0}) Trouble) (w : Result (Unit {0}) Unwritten)
    {a b : ByteNetwork} {xs : List Request} {old : Sink} {middle : Option (List ℕ)}
    (new : Option (List ℕ)) → r ≡ of_writing w → RunWhole a xs b old (sink middle [])
    → Keeps middle new → HasRun r a xs b old (sink new [])
run_flushed r (Ok done) {a = a} {b = b} {xs = xs} {old = old} new is p k =
    subst (λ x. HasRun x a xs b old (sink new [])) (sym is)
    (record { text = p.text; runs = p.runs; prints = prints_kept new p.prints k })
run_flushed r (Err fault) {a = a} {b = b} {xs = xs} {old = old} new is p k =
    subst (λ x. HasRun x a xs b old (sink new [])) (sym is)
    (record {
      text = p.text;
      begins = begins_all p.runs;
      loses = loses_kept new (no_loss p.prints) k;
      whole = λ is. cc is;
    })

-- one command more
pub requests_more : (commands : List ScriptCommand) (i : ℕ) (d : ScriptCommand)
    → i < length commands → d ≡ get_or commands i d
    → requests (take (i + 1) commands) ≡ requests (take i commands) ++ request_now d ∷ []
requests_more commands i d within is =
    ap requests (take_more commands i d within)
    ∙ map-append request_now (take i commands) (get_or commands i d ∷ [])
    ∙ ap (λ c. requests (take i commands) ++ request_now c ∷ []) (sym is)

-- the commands before one, that one, and those behind it
pub requests_around : (commands : List ScriptCommand) (i : ℕ) (d : ScriptCommand)
    → i < length commands → d ≡ get_or commands i d → requests commands ≡ requests (take i commands)
    ++ request_now d ∷ requests (drop (i + 1) commands)
requests_around commands i d within is =
    ap requests (sym (take-append-drop i commands)
    ∙ ap (λ ds. take i commands ++ ds) (drop_more commands i d within))
    ∙ map-append request_now (take i commands) (get_or commands i d ∷ drop (i + 1) commands)
    ∙ ap (λ c. requests (take i commands) ++ request_now c ∷ requests (drop (i + 1) commands))
    (sym is)

-- what fails fails as its kind of result says
pub playing_failed : (r : Result (Unit {0}) Trouble) (trouble : Trouble) (first : ByteNetwork)
    (moves : List Move) (last : ByteNetwork) (old new : Sink) → IsErrAnd r (λ t. t ≡ trouble)
    → Breaks trouble first moves old new → IsPlayed r first moves last old new
playing_failed (Ok _) trouble first moves last old new failed p = absurd failed
playing_failed (Err t) trouble first moves last old new failed p =
    subst (λ x. Breaks x first moves old new) (sym failed) p

pub running_failed : (r : Result (Unit {0}) Trouble) (trouble : Trouble) (first : ByteNetwork)
    (asked : List Request) (last : ByteNetwork) (old new : Sink) → IsErrAnd r (λ t. t ≡ trouble)
    → RunInto trouble first asked old new → HasRun r first asked last old new
running_failed (Ok _) trouble first asked last old new failed p = absurd failed
running_failed (Err t) trouble first asked last old new failed p =
    subst (λ x. RunInto x first asked old new) (sym failed) p

abbrev pub IsCarriedLine : ArrayVec ℕ → Type 0
IsCarriedLine line = IsCarried line.items

-- the lines that were given so far were played, and those that are left can be given
pub record Going (client : ℕ) (lines left : List (ArrayVec ℕ)) (first last : ByteNetwork)
    (old new : Sink) : Type 0 where
  pub given : List (ArrayVec ℕ)
  pub parts : lines ≡ given ++ left
  pub carried : AllByRecursion IsCarriedLine left
  pub played : Played first (map (gives_now client) given) last old new

pub going_first : (client : ℕ) (lines : List (ArrayVec ℕ)) (first : ByteNetwork) (known : Sink)
    → AllByRecursion IsCarriedLine lines → Going client lines lines first first known known
going_first client lines first known all =
    record { given = []; parts = refl; carried = all; played = played_nothing first known }

all_left : (lines left later : List (ArrayVec ℕ)) (line : ArrayVec ℕ) → left ≡ line ∷ later
    → AllByRecursion IsCarriedLine left → IsCarriedLine line × AllByRecursion IsCarriedLine later
all_left lines left later line is all = subst (λ ls. AllByRecursion IsCarriedLine ls) is all

-- the next line can be given
pub going_carried : (client : ℕ) (lines left later : List (ArrayVec ℕ))
    (line : ArrayVec ℕ) {first middle : ByteNetwork} {old now : Sink} → left ≡ line ∷ later
    → Going client lines left first middle old now → IsCarried line.items
going_carried client lines left later line is p = (all_left lines left later line is p.carried).0

-- one line more
pub going_on : (client : ℕ) (lines left later : List (ArrayVec ℕ)) (line : ArrayVec ℕ)
    {first middle last : ByteNetwork} {old now new : Sink} → left ≡ line ∷ later
    → Going client lines left first middle old now → Played middle
    (gives_now client line ∷ []) last now new → Going client lines later first last old new
going_on client lines left later line {first = first} {last = last} {old = old} {new = new} is p q =
    record {
      given = p.given ++ line ∷ [];
      parts = p.parts ∙ ap (λ ls. p.given ++ ls) is ∙ sym (append_assoc p.given (line ∷ []) later);
      carried = (all_left lines left later line is p.carried).1;
      played = subst (λ moves. Played first moves last old new)
          (sym (map-append (gives_now client) p.given (line ∷ []))) (played_both p.played q);
    }

-- a line that breaks
pub going_breaks : (client : ℕ) (lines left later : List (ArrayVec ℕ)) (line : ArrayVec ℕ)
    (moves : List Move) {trouble : Trouble} {first middle : ByteNetwork}
    {old now new : Sink}
    → left ≡ line ∷ later
    → moves ≡ map (gives_now client) lines → Going client lines left first middle old now
    → Breaks trouble middle (gives_now client line ∷ []) now new
    → Breaks trouble first moves old new
going_breaks client lines left later line moves {trouble = trouble} {first = first} {old = old}
    {new = new} is all p q =
    let parts : moves ≡ map (gives_now client) p.given
    ++ (gives_now client line ∷ map (gives_now client) later) =
    all ∙ ap (map (gives_now client)) (p.parts ∙ ap (λ ls. p.given ++ ls) is)
    ∙ map-append (gives_now client) p.given (line ∷ later) in
    subst (λ ms. Breaks trouble first ms old new) (sym parts)
    (breaks_behind (map (gives_now client) later) p.played q)

-- no line is left
pub going_end : (client : ℕ) (lines left : List (ArrayVec ℕ)) (moves : List Move)
    {first last : ByteNetwork} {old new : Sink} → left ≡ [] → moves ≡ map (gives_now client) lines
    → Going client lines left first last old new → Played first moves last old new
going_end client lines left moves {first = first} {last = last} {old = old} {new = new} none all p =
    let parts : moves ≡ map (gives_now client) p.given = all ∙ ap (map (gives_now client))
    (p.parts ∙ ap (λ ls. p.given ++ ls) none ∙ append-nil p.given) in
    subst (λ ms. Played first ms last old new) (sym parts) p.played

-- what waits was to be written behind a run, and its end is lost
pub run_unwritten : (r : Result (Unit {0}) Trouble) (first last : ByteNetwork)
    (asked : List Request) (held middle new : Option (List ℕ))
    (before waiting after : List ℕ) → before ≡ [] → after ≡ []
    → HasRun r first asked last (sink held before) (sink middle waiting)
    → Loses (sink middle waiting) (sink new after) []
    → RunInto Device first asked (sink held []) (sink new [])
run_unwritten r first last asked held middle new before waiting after e f p q =
    subst (λ b. RunInto Device first asked (sink held b) (sink new [])) e
    (subst (λ a. RunInto Device first asked (sink held before) (sink new a)) f (by r p))
  where
    by : (r : Result (Unit {0}) Trouble) → HasRun r first asked last (sink held before)
        (sink middle waiting) → RunInto Device first asked (sink held before) (sink new after)
    by (Ok _) p = run_into_on (run_loses p) q
    by (Err trouble) p = run_into_on p q

-- a run that was broken off, behind which what waits was written
pub run_closed : (trouble : Trouble) (first : ByteNetwork) (asked : List Request)
    (held middle new : Option (List ℕ))
    (before waiting after : List ℕ) → before ≡ [] → after ≡ []
    → RunInto trouble first asked (sink held before) (sink middle waiting)
    → Prints (sink middle waiting) (sink new after) []
    → RunInto trouble first asked (sink held []) (sink new [])
run_closed trouble first asked held middle new before waiting after e f p q =
    subst (λ b. RunInto trouble first asked (sink held b) (sink new [])) e
    (subst (λ a. RunInto trouble first asked (sink held before) (sink new a)) f (run_into_kept p q))

-- a whole run, behind which all that waited was written, and the writer flushed
pub run_ended : (r : Result (Unit {0}) Trouble) (w : Result (Unit {0}) Unwritten)
    (first last : ByteNetwork) (asked : List Request)
    (held middle new flushed : Option (List ℕ)) (before waiting after : List ℕ)
    → r ≡ of_writing w → before ≡ [] → after ≡ []
    → RunWhole first asked last (sink held before) (sink middle waiting)
    → Prints (sink middle waiting) (sink new after) []
    → Keeps new flushed → HasRun r first asked last (sink held []) (sink flushed [])
run_ended r w first last asked held middle new flushed before waiting after is e g p q k =
    run_flushed r w flushed is
    (subst (λ b. RunWhole first asked last (sink held b) (sink new [])) e
    (subst (λ a. RunWhole first asked last (sink held before) (sink new a)) g (run_on p q))) k
