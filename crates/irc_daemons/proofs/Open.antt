-- Which connections stay open, and of which kind.
use Rattle.std.proofs.Common.{◌≡◌, ℕ, ◌+◌, Bool, true, false, cond, ◌||◌, ◌&&◌, nat_eq, is_some}
use Rattle.std.proofs.Common.{Option, Some, None, List, [], ◌∷◌, ◌++◌, refl, sym, ◌∙◌, ap, subst}
use Rattle.std.proofs.Common.{arith, if◌then◌else◌}
use Rattle.std.proofs.lemmas.Bool.{eqb-true, or_parts}
use Rattle.std.specs.List.{AllByRecursion, list_any}
use Rattle.irc_line.specs.Carried.{IsCarried}
use Rattle.irc_line.specs.Laws.{PiecesCompleteTheSame}
use Rattle.irc_line.specs.Lines.{Begun, lines, stream_for}
use Rattle.irc_outbox.specs.Calls.{Call}
use Rattle.irc_server.specs.declared.event.Event.{Event}
use Rattle.irc_server.specs.declared.event.Event.TheVariants.{Connect, Line, Gone, LinkUp, LinkLine}
use Rattle.irc_server.specs.declared.event.Event.TheVariants.{LinkDown}
use Rattle.irc_engine.specs.declared.connection_table.Connection.{Connection}
use Rattle.irc_engine.specs.declared.kind.ConnectionKind.{ConnectionKind}
use Rattle.irc_engine.specs.declared.kind.ConnectionKind.TheVariants as kinds
use Rattle.irc_engine.specs.Carrying.{IsOfKind, KeepsKind, is_closed_by, is_open_at, kind_at}
use Rattle.irc_engine.specs.Carrying.{kind_of_connection, kind_of_loss, open_kind_at}
use Rattle.irc_engine.specs.Hearing.{Hears, is_gone_of, line_by, lines_by, times_gone}
use Rattle.irc_engine.specs.Lemmas.HearingLaws.{times_gone-append}
use Rattle.irc_engine.specs.Running.{AllTold, IsApart, IsNews, Moment, Ran, a_line, an_end}
use Rattle.irc_engine.specs.Running.{standing_of}
use Rattle.irc_engine.specs.Writing.{one_if}
use Rattle.irc_daemons.proofs.Asked.{AreTextsCarried, IsTextCarried, NoneConnects}
use Rattle.irc_daemons.proofs.Asked.{is_connecting_event, is_left}
use Rattle.irc_daemons.proofs.Lists.{all_rest}
use Rattle.irc_daemons.proofs.Single.{kind_then}
use Rattle.irc_daemons.proofs.Told.{IsRealIf, heard_first}

-- ---- kinds

pub record IsOpenOf (its : ConnectionKind) (connection : Option Connection) : Type 0 where
  pub is_open : is_open_at connection ≡ true
  pub kind : kind_at connection ≡ Some its

pub open_of : (kind : ConnectionKind) (connection : Option Connection)
    → open_kind_at connection ≡ Some kind → IsOpenOf kind connection
open_of kind connection is = by (is_open_at connection) refl is
  where
    by : (b : Bool) → is_open_at connection ≡ b
        → (if b then kind_at connection else None) ≡ Some kind → IsOpenOf kind connection
    by true opened known = record { is_open = opened; kind = known }
    by false closed known = cc known

pub as_open_of : (kind : ConnectionKind) (connection : Option Connection) → is_open_at connection
    ≡ true → kind_at connection ≡ Some kind → open_kind_at connection ≡ Some kind
as_open_of kind connection opened known =
    ap (λ b. if b then kind_at connection else None) opened ∙ known

pub keeps_kind : (kind : ConnectionKind) (old new : Option Connection)
    (was now : Option ConnectionKind) → KeepsKind old was new now → was ≡ None
    → kind_at old ≡ Some kind → is_open_at new ≡ true → kind_at new ≡ Some kind
keeps_kind kind old None was now keeps none known opened = cc opened
keeps_kind kind old (Some new) was now keeps none known opened =
    sym (kind_then old (Some new) was now keeps none new.kind (kind_of_connection refl)) ∙ known

-- ---- who is told to be gone

one_gone : (q : ℕ) (event : Event) → is_gone_of q event ≡ false → times_gone q (event ∷ []) ≡ 0
one_gone q (Connect conn host) is = refl
one_gone q (Line conn text) is = refl
one_gone q (Gone conn) is = ap (λ b. 0 + cond b 1 0) is
one_gone q (LinkUp link starts) is = refl
one_gone q (LinkLine link text) is = refl
one_gone q (LinkDown link) is = ap (λ b. 0 + cond b 1 0) is

never_gone : (q : ℕ) (events : List Event) → list_any (is_gone_of q) events ≡ false
    → times_gone q events ≡ 0
never_gone q [] none = refl
never_gone q (event ∷ events) none =
    let parts = or_parts (is_gone_of q event) (list_any (is_gone_of q) events) none in
    times_gone-append q (event ∷ []) events
    ∙ ap (λ n. n + times_gone q events) (one_gone q event parts.0)
    ∙ ap (λ n. 0 + n) (never_gone q events parts.1)

module _ {W : Type 0} (now : Moment W) (told : AllTold now) where
  gone_as_client : (q : ℕ) (event : Event) → kind_at (now.connections q) ≡ Some kinds.Client
      → IsNews now event → is_left q event ≡ false → is_gone_of q event ≡ false
  gone_as_client q event client (a_line kinds.Client conn text is_of is) left = ap (is_gone_of q) is
  gone_as_client q event client (a_line kinds.Link conn text is_of is) left = ap (is_gone_of q) is
  gone_as_client q event client (an_end kinds.Client conn is_of is) left = ap (is_gone_of q) is
      ∙ sym (ap (is_left q) is) ∙ left
  gone_as_client q event client (an_end kinds.Link conn is_of is) left = ap (is_gone_of q) is
      ∙ by (nat_eq conn q) refl is_of
    where
      by : (b : Bool) → nat_eq conn q ≡ b
          → IsOfKind kinds.Link (now.connections conn) (now.lost conn) → b ≡ false
      by false two is_of = refl
      by true same (kind_of_connection link) = cc
          (sym client ∙ ap (λ n. kind_at (now.connections n)) (sym (eqb-true conn q same)) ∙ link)
      by true same (kind_of_loss lost) = cc (sym (told conn) ∙ lost)

  -- a client that is told of as a client is told of by no other event
  pub none_gone : (q : ℕ) (events : List Event) → kind_at (now.connections q) ≡ Some kinds.Client
      → AllByRecursion (IsNews now) events → list_any (is_left q) events ≡ false
      → list_any (is_gone_of q) events ≡ false
  none_gone q [] client news none = refl
  none_gone q (event ∷ events) client news none =
      let parts = or_parts (is_left q event) (list_any (is_left q) events) none in
      ap (λ b. b || list_any (is_gone_of q) events) (gone_as_client q event client news.0 parts.0)
      ∙ none_gone q events client news.1 parts.1

  -- ---- what is told

  connects_not : (event : Event) → IsNews now event → is_connecting_event event ≡ false
  connects_not event (a_line kinds.Client conn text is_of is) = ap is_connecting_event is
  connects_not event (a_line kinds.Link conn text is_of is) = ap is_connecting_event is
  connects_not event (an_end kinds.Client conn is_of is) = ap is_connecting_event is
  connects_not event (an_end kinds.Link conn is_of is) = ap is_connecting_event is

  pub none_connects : (events : List Event) → AllByRecursion (IsNews now) events
      → NoneConnects events
  none_connects [] news = tt
  none_connects (event ∷ events) news = (connects_not event news.0, none_connects events news.1)

-- each line is one that can be carried where those of each connection are
text_carried : (event : Event) (events : List Event)
    → ((q : ℕ) → AllByRecursion IsCarried (lines_by q (event ∷ events))) → IsTextCarried event
text_carried (Line conn text) events all = first text.items (subst (AllByRecursion IsCarried)
    (heard_first kinds.Client conn text (Line conn text) events refl) (all conn))
  where
    first : (xs : List ℕ) → AllByRecursion IsCarried (xs ∷ lines_by conn events) → IsCarried xs
    first xs both = both.0
text_carried (Connect conn host) events all = tt
text_carried (Gone conn) events all = tt
text_carried (LinkUp link starts) events all = tt
text_carried (LinkLine link text) events all = tt
text_carried (LinkDown link) events all = tt

pub texts_carried : (events : List Event) → ((q : ℕ) → AllByRecursion IsCarried (lines_by q events))
    → AreTextsCarried events
texts_carried [] all = tt
texts_carried (event ∷ events) all = (
  text_carried event events all,
  texts_carried events
      (λ q. all_rest IsCarried (line_by q event) (lines_by q events) (all q)),
)

-- each line of a stream is one
abbrev pub StreamLinesAreCarried : Type 0
StreamLinesAreCarried = (stream : List ℕ) → AllByRecursion IsCarried (lines stream)

pub heard_carried : PiecesCompleteTheSame → StreamLinesAreCarried
    → (old new : Option Begun) (came : List ℕ) (heard : List (List ℕ)) → IsRealIf old
    → Hears old came heard new → AllByRecursion IsCarried heard
heard_carried pieces carried None None came heard real hears =
    subst (AllByRecursion IsCarried) (sym hears) tt
heard_carried pieces carried None (Some new) came heard real hears = absurd hears
heard_carried pieces carried (Some old) (Some new) came heard real hears =
    subst (AllByRecursion IsCarried)
    (sym ((pieces old (real old refl)).takes came heard new hears).0)
    (carried (stream_for old ++ came))
heard_carried pieces carried (Some old) None came heard real hears =
    subst (AllByRecursion IsCarried)
    (sym ((pieces old (real old refl)).takes hears.front heard hears.new hears.takes).0)
    (carried (stream_for old ++ hears.front))

-- ---- who stays open

module _ {W : Type 0} (is_after : W → List Call → Type 0) (exchanges : List Call)
    (first : List Event) (came : ℕ → List ℕ) (old new : Moment W)
    (ran : Ran is_after exchanges first came old new) (q : ℕ) (lost_old : old.lost q ≡ None)
    (lost_new : new.lost q ≡ None)
  where
    pub stays_open : is_open_at (old.connections q) ≡ true → is_closed_by q ran.outs ≡ false
        → list_any (is_gone_of q) ran.events ≡ false → is_open_at (new.connections q) ≡ true
    stays_open opened not_closed not_gone = by (is_open_at (new.connections q)) refl
      where
        apart : IsApart (standing_of q old)
        apart = ap (λ o. is_some o && is_open_at (old.connections q)) lost_old

        counted : times_gone q ran.events + one_if
            (is_some (new.lost q) || is_open_at (new.connections q))
            ≡ one_if (is_some (old.lost q) || is_open_at (old.connections q))
        counted = (ran.tells q apart).unless_closed not_closed

        was_one : one_if (is_some (old.lost q) || is_open_at (old.connections q)) ≡ 1
        was_one =
            ap (λ o. one_if (is_some o || is_open_at (old.connections q))) lost_old
            ∙ ap (λ b. one_if (false || b)) opened

        is_none : is_open_at (new.connections q) ≡ false
            → one_if (is_some (new.lost q) || is_open_at (new.connections q)) ≡ 0
        is_none closed = ap (λ o. one_if (is_some o || is_open_at (new.connections q))) lost_new
            ∙ ap (λ b. one_if (false || b)) closed

        clash : (n m k : ℕ) → n + m ≡ k → n ≡ 0 → m ≡ 0 → k ≡ 1 → ⊥
        clash n m k sum none zero_is one = omega (arith, sum, none, zero_is, one)

        by : (b : Bool) → is_open_at (new.connections q) ≡ b → b ≡ true
        by true is = refl
        by false is =
            absurd
            (clash (times_gone q ran.events)
            (one_if (is_some (new.lost q) || is_open_at (new.connections q)))
            (one_if (is_some (old.lost q) || is_open_at (old.connections q))) counted
            (never_gone q ran.events not_gone) (is_none is) was_one)
