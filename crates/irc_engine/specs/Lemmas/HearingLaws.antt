-- What the server is told of a connection, over two stretches.
use Rattle.std.proofs.Common.{◌≡◌, ℕ, ◌+◌, cond, Option, Some, None, List, [], ◌++◌, refl, sym, ◌∙◌}
use Rattle.std.proofs.Common.{ap, subst, append_assoc, append-nil}
use Rattle.std.proofs.lemmas.Grind.{flat_map-append}
use Rattle.std.proofs.lemmas.List.Sums.{sum_by-append}
use Rattle.irc_line.specs.Lines.{Begun, HasTaken, lines, Takes}
use Rattle.irc_server.specs.declared.event.Event.{Event}
use Rattle.irc_engine.specs.Hearing.{line_by, lines_by, is_gone_of, times_gone, Hears}

pub lines_by-append : (conn : ℕ) (a b : List Event)
    → lines_by conn (a ++ b) ≡ lines_by conn a ++ lines_by conn b
lines_by-append conn a b = flat_map-append (line_by conn) a b

pub times_gone-append : (conn : ℕ) (a b : List Event)
    → times_gone conn (a ++ b) ≡ times_gone conn a + times_gone conn b
times_gone-append conn a b = sum_by-append (λ e. cond (is_gone_of conn e) 1 0) a b

takes_none : (b : Begun) → Takes b [] [] b
takes_none b = record {
  framer = λ stream taken. subst (λ s. HasTaken b s) (sym (append-nil stream)) taken;
  lines_found = λ stream taken. ap lines (append-nil stream) ∙ sym (append-nil (lines stream));
}

takes_on : (a b c : Begun) (x y : List ℕ) (f g : List (List ℕ)) → Takes a x f b → Takes b y g c
    → Takes a (x ++ y) (f ++ g) c
takes_on a b c x y f g one other = record {
  framer = λ stream taken. subst (λ s. HasTaken c s) (append_assoc stream x y)
      (other.framer (stream ++ x) (one.framer stream taken));
  lines_found = λ stream taken.
      ap lines (sym (append_assoc stream x y))
      ∙ other.lines_found (stream ++ x) (one.framer stream taken)
      ∙ ap (λ ls. ls ++ g) (one.lines_found stream taken) ∙ append_assoc (lines stream) f g;
}

pub hears_gone : (b : Option Begun) → Hears b [] [] None
hears_gone None = refl
hears_gone (Some b) =
    record { front = []; rest = []; new = b; came_is = refl; takes = takes_none b }

pub hears_kept : (b : Option Begun) → Hears b [] [] b
hears_kept None = refl
hears_kept (Some b) = takes_none b

pub hears_same : (old new : Option Begun) → new ≡ old → Hears old [] [] new
hears_same old new same =
    subst (λ (b : Option Begun). Hears old [] [] b) (sym same) (hears_kept old)

-- bytes that come of a connection that is not open
pub hears_deaf : (came : List ℕ) (b : Option Begun) → b ≡ None → Hears b came [] b
hears_deaf came b closed = subst (λ (o : Option Begun). Hears o came [] o) (sym closed) refl

pub hears_on : (a b c : Option Begun) (x y : List ℕ) (f g : List (List ℕ)) → Hears a x f b
    → Hears b y g c → Hears a (x ++ y) (f ++ g) c
hears_on None None None x y f g one other = ap (λ ls. ls ++ g) one ∙ other
hears_on None None (Some c) x y f g one other = absurd other
hears_on None (Some b) c x y f g one other = absurd one
hears_on (Some a) (Some b) (Some c) x y f g one other = takes_on a b c x y f g one other
hears_on (Some a) (Some b) None x y f g one other = record {
  front = x ++ other.front;
  rest = other.rest;
  new = other.new;
  came_is = ap (λ bs. x ++ bs) other.came_is ∙ sym (append_assoc x other.front other.rest);
  takes = takes_on a b other.new x other.front f g one other.takes;
}
hears_on (Some a) None None x y f g one other = record {
  front = one.front;
  rest = one.rest ++ y;
  new = one.new;
  came_is = ap (λ bs. bs ++ y) one.came_is ∙ append_assoc one.front one.rest y;
  takes = subst (λ (ls : List (List ℕ)). Takes a one.front ls one.new)
      (sym (append-nil f) ∙ ap (λ ls. f ++ ls) (sym other)) one.takes;
}
hears_on (Some a) None (Some c) x y f g one other = absurd other
