-- What came of a connection, and the lines by which the server is told of that.
use Rattle.std.proofs.Common.{◌≡◌, ℕ, true, is_some, Option, Some, None, List, [], ◌∷◌, ◌++◌, refl}
use Rattle.std.proofs.Common.{sym, ◌∙◌, ap, subst, unwrap_or, if◌then◌else◌}
use Rattle.std.proofs.lemmas.Bool.{eq-eqb}
use Rattle.std.proofs.lemmas.Option.{same_Some}
use Rattle.arrayvec.specs.ArrayVec.{ArrayVec}
use Rattle.irc_line.specs.Laws.{PiecesCompleteTheSame}
use Rattle.irc_line.specs.Lines.{Begun, HasTaken, begun_behind, completed, nothing_begun}
use Rattle.irc_line.specs.Lines.{stream_for}
use Rattle.irc_server.specs.declared.event.Event.{Event}
use Rattle.irc_engine.specs.declared.kind.ConnectionKind.{ConnectionKind}
use Rattle.irc_engine.specs.declared.kind.ConnectionKind.TheVariants.{Client, Link}
use Rattle.irc_engine.specs.Hearing.{line_by, line_event_of, lines_by, Hears}
use Rattle.irc_daemons.proofs.Lists.{front_none}

-- ---- framers

abbrev pub IsRealBegun : Begun → Type 0
IsRealBegun begun = HasTaken begun (stream_for begun)

-- a framer, if there is one, is one to which some stream led
abbrev pub IsRealIf : Option Begun → Type 0
IsRealIf framer = (begun : Begun) → framer ≡ Some begun → IsRealBegun begun

abbrev pub begun_or_none : Option Begun → Begun
begun_or_none framer = unwrap_or framer nothing_begun

-- what was heard, of one that is open still
pub record IsFramed (old new : Option Begun) (came : List ℕ) (heard : List (List ℕ)) : Type 0 where
  pub lines : heard ≡ completed (begun_or_none old) came
  pub begun : begun_or_none new ≡ begun_behind (begun_or_none old) came

module _ (pieces : PiecesCompleteTheSame) where
  pub nothing_heard : (old new : Option Begun) (heard : List (List ℕ)) → IsRealIf old
      → Hears old [] heard new → heard ≡ []
  nothing_heard None None heard real hears = hears
  nothing_heard None (Some new) heard real hears = absurd hears
  nothing_heard (Some old) (Some new) heard real hears =
      let known = pieces old (real old refl) in (known.takes [] heard new hears).0 ∙ known.none
  nothing_heard (Some old) None heard real hears =
      let known = pieces old (real old refl) in
      (known.takes hears.front heard hears.new hears.takes).0
      ∙ ap (completed old) (front_none hears.front hears.rest (sym hears.came_is)) ∙ known.none

  pub stays_real : (old new : Option Begun) (came : List ℕ) (heard : List (List ℕ)) → IsRealIf old
      → Hears old came heard new → IsRealIf new
  stays_real old None came heard real hears begun is = cc is
  stays_real None (Some new) came heard real hears begun is = absurd hears
  stays_real (Some old) (Some new) came heard real hears begun is =
      let known = pieces old (real old refl) in
      subst IsRealBegun (sym (known.takes came heard new hears).1 ∙ same_Some new begun is)
      (known.taken came)

  pub framed : (old new : Option Begun) (came : List ℕ) (heard : List (List ℕ)) → IsRealIf old
      → Hears old came heard new → is_some new ≡ true → IsFramed old new came heard
  framed old None came heard real hears opened = cc opened
  framed None (Some new) came heard real hears opened = absurd hears
  framed (Some old) (Some new) came heard real hears opened =
      let takes = (pieces old (real old refl)).takes came heard new hears in
      record { lines = takes.0; begun = takes.1 }

-- ---- events

line_there : (kind : ConnectionKind) (conn : ℕ) (line : ArrayVec ℕ)
    → line_by conn (line_event_of kind conn line) ≡ line.items ∷ []
line_there Client conn line = ap (λ b. if b then line.items ∷ [] else []) (eq-eqb conn conn refl)
line_there Link conn line = ap (λ b. if b then line.items ∷ [] else []) (eq-eqb conn conn refl)

pub heard_first : (kind : ConnectionKind) (conn : ℕ) (line : ArrayVec ℕ) (event : Event)
    (events : List Event) → event ≡ line_event_of kind conn line
    → lines_by conn (event ∷ events) ≡ line.items ∷ lines_by conn events
heard_first kind conn line event events is = ap (λ e. line_by conn e ++ lines_by conn events) is
    ∙ ap (λ ls. ls ++ lines_by conn events) (line_there kind conn line)
