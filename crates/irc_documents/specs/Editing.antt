-- A document that two ends edit, and what becomes of operations that cross.
--
-- A register in which the greater of two writes stays: in 0 one end writes 3, and the other 5. The
-- first then hears of the 5, which still stands there: 3, then 5. The second hears of the 3, which
-- has become nothing: 5, then 5. Both have 5.
use Rattle.std.specs.Prelude.{◌≡◌, List, [], ◌∷◌}

-- ---- operations, one behind another

-- a document after them, by what one does
abbrev pub made_of : {Doc Op : Type 0} → (Doc → Op → Doc) → Doc → List Op → Doc
made_of done s [] = s
made_of done s (a ∷ more) = made_of done (done s a) more

-- each of them can be made where it stands
abbrev pub CanBeMade : {Doc Op : Type 0} → (Doc → Op → Doc) → (Doc → Op → Type 0) → Doc → List Op
    → Type 0
CanBeMade done may s [] = Unit
CanBeMade done may s (a ∷ more) = may s a × CanBeMade done may (done s a) more

-- these do what one operation does
pub record DoTheSame {Doc Op : Type 0} (done : Doc → Op → Doc) (may : Doc → Op → Type 0)
    (s : Doc) (op : Op) (ops : List Op) : Type 0 where
  pub same : made_of done s ops ≡ done s op
  pub may_all : CanBeMade done may s ops

-- ---- what is edited

-- documents, with the blank one, and operations: the document after an operation, whether an
-- operation can be made in a document, and what becomes of their operation behind ours
-- (crossed s theirs ours), where both were made in s. A server passes an operation on as these
-- (told_as), which do the same: as none, where it is nothing, and as several, where it is long
pub record Editing (Doc Op : Type 0) : Type 1 where
  pub blank : Doc
  pub done : Doc → Op → Doc
  pub may : Doc → Op → Type 0
  pub crossed : Doc → Op → Op → Op
  pub told_as : Op → List Op
  pub told_whole : (s : Doc) (op : Op) → may s op → DoTheSame done may s op (told_as op)

-- the diamond of two operations that were made in s: it plays no part which is done first, and
-- what becomes of the other can be made behind it
pub record Meet {Doc Op : Type 0} (e : Editing Doc Op) (s : Doc) (a b : Op) : Type 0 where
  pub same : e.done (e.done s a) (e.crossed s b a) ≡ e.done (e.done s b) (e.crossed s a b)
  pub b_may : e.may (e.done s a) (e.crossed s b a)
  pub a_may : e.may (e.done s b) (e.crossed s a b)

-- it holds of each two that can be made in one document
pub record HasDiamond {Doc Op : Type 0} (e : Editing Doc Op) : Type 0 where
  pub same : (s : Doc) (a b : Op) → e.may s a → e.may s b
      → e.done (e.done s a) (e.crossed s b a) ≡ e.done (e.done s b) (e.crossed s a b)
  pub may_behind : (s : Doc) (a b : Op) → e.may s a → e.may s b
      → e.may (e.done s a) (e.crossed s b a)
