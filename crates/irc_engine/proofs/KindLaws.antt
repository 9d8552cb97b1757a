-- Of which kind connections are, and how they are told as lost, step by step.
use Rattle.std.proofs.Common.{◌≡◌, Bool, true, false, ◌&&◌, ◌||◌, cond, is_some, Option, Some, None}
use Rattle.std.proofs.Common.{refl, sym, ◌∙◌}
use Rattle.std.proofs.Math.Bool.{or-false}
use Rattle.irc_engine.specs.declared.kind.ConnectionKind.{ConnectionKind}
use Rattle.irc_engine.specs.declared.connection_table.Connection.{Connection}
use Rattle.irc_engine.specs.Carrying.{is_open_at, kind_at, open_kind_at, IsOfKind}
use Rattle.irc_engine.specs.Carrying.{kind_of_connection, kind_of_loss, KeepsKind}
use Rattle.irc_engine.specs.Loops.Connections.{lost_by}

module _ (old new : Option Connection) (was now : Option ConnectionKind)
    (connection : kind_at new ≡ kind_at old) where
  -- it is of the kind that it was of, and is told as lost as it was
  pub kind_kept : now ≡ was → KeepsKind old was new now
  kind_kept lost kind (kind_of_connection is) = kind_of_connection (sym connection ∙ is)
  kind_kept lost kind (kind_of_loss is) = kind_of_loss (sym lost ∙ is)

  -- it is not told as lost any more
  pub kind_forgotten : now ≡ None → KeepsKind old was new now
  kind_forgotten lost kind (kind_of_connection is) = kind_of_connection (sym connection ∙ is)
  kind_forgotten lost kind (kind_of_loss is) = cc (sym lost ∙ is)

module _ (old : Option Connection) (was now : Option ConnectionKind) where
  -- it is there no more
  pub kind_gone : now ≡ was → KeepsKind old was None now
  kind_gone lost kind (kind_of_connection is) = cc is
  kind_gone lost kind (kind_of_loss is) = kind_of_loss (sym lost ∙ is)

  -- and it may be lost by that
  pub kind_of_lost : (it_is : Bool) → now ≡ lost_by it_is old was → KeepsKind old was None now
  kind_of_lost it_is lost kind (kind_of_connection is) = cc is
  kind_of_lost it_is lost kind (kind_of_loss is) = by (it_is && is_open_at old) (sym lost ∙ is)
    where
      by : (is_lost : Bool) → cond is_lost (kind_at old) was ≡ Some kind → IsOfKind kind old was
      by true is = kind_of_connection is
      by false is = kind_of_loss is

or_all : (b : Bool) → true ≡ (b || true)
or_all true = refl
or_all false = refl

-- whether a connection is told as lost: it was, or it is open and lost now
pub some_lost : (it_is : Bool) (connection : Option Connection) (was : Option ConnectionKind)
    → is_some (lost_by it_is connection was) ≡ (is_some was || (it_is && is_open_at connection))
some_lost false connection was = sym (or-false (is_some was))
some_lost true None was = sym (or-false (is_some was))
some_lost true (Some connection) was = by (is_some connection.framer)
  where
    by : (is_open : Bool) → is_some (cond is_open (Some connection.kind) was)
        ≡ (is_some was || is_open)
    by true = or_all (is_some was)
    by false = sym (or-false (is_some was))

pub lost_by_open : (it_is : Bool) (connection : Option Connection)
    (kind : ConnectionKind) (was : Option ConnectionKind) → open_kind_at connection ≡ Some kind
    → cond it_is (Some kind) was ≡ lost_by it_is connection was
lost_by_open false connection kind was is = refl
lost_by_open true connection kind was is = by (is_open_at connection) is
  where
    by : (is_open : Bool) → cond is_open (kind_at connection) None ≡ Some kind
        → Some kind ≡ cond is_open (kind_at connection) was
    by true is = sym is
    by false is = cc is

pub lost_by_close : (it_is : Bool) (connection : Option Connection) (was : Option ConnectionKind)
    → open_kind_at connection ≡ None → was ≡ lost_by it_is connection was
lost_by_close false connection was is = refl
lost_by_close true None was is = refl
lost_by_close true (Some connection) was is = by (is_some connection.framer) is
  where
    by : (is_open : Bool) → cond is_open (Some connection.kind) None ≡ None
        → was ≡ cond is_open (Some connection.kind) was
    by true is = cc is
    by false is = refl

pub open_some : (connection : Option Connection) (kind : ConnectionKind)
    → open_kind_at connection ≡ Some kind → is_some connection ≡ true
open_some None kind is = cc is
open_some (Some connection) kind is = refl
