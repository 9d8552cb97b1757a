-- A link in flight: what its two ends, their documents and what is on its way have to do with one
-- another.
--
-- In the register 0 a writes 3, and b writes 5 before it hears of that. Until either is read, both
-- documents are reached from 0: a's by the 3, b's by the 5. Once b has read the 3, which became
-- nothing there, the common document is 3, in which all is that a has made and b has read: a's is
-- the same, and b's is reached from it by the 5.
use Rattle.std.specs.Prelude.{◌≡◌, ℕ, ◌+◌, ◌≤◌, List, [], ◌∷◌, ◌++◌, length}
use Rattle.irc_documents.specs.Editing.{Editing}
use Rattle.irc_documents.specs.Lists.{all_done, AllMay, Meets}
use Rattle.irc_documents.specs.Ends.{Message, told, only_count, End, with_more, counted_off}
use Rattle.irc_documents.specs.Ends.{after_message, all_became}

-- one side of a link: the server's document, its end, and what is on its way from it
pub record Side (Doc Op : Type 0) : Type 0 where
  pub doc : Doc
  pub end : End Doc Op
  pub queue : List (Message Op)

module _ {Doc Op : Type 0} (e : Editing Doc Op) where
  -- a count that an end can read: it is of operations that stand in the log
  pub record IsCount (end : End Doc Op) (count : ℕ) : Type 0 where
    pub least : end.counted ≤ count
    pub most : count ≤ end.counted + length end.log

  -- an operation that it can read: it can be made in the document in which it then stands, and has
  -- the diamond with each of the log that is left
  pub record IsOperation (end : End Doc Op) (count : ℕ) (op : Op) : Type 0 where
    pub counts : IsCount end count
    pub may : e.may (counted_off e end count).base op
    pub meets : Meets e (counted_off e end count).base (counted_off e end count).log op

  abbrev pub IsGood : End Doc Op → Message Op → Type 0
  IsGood end (told count op) = IsOperation end count op
  IsGood end (only_count count) = IsCount end count

  -- messages that it can read, one after another
  abbrev pub AreGood : End Doc Op → List (Message Op) → Type 0
  AreGood end [] = Unit
  AreGood end (message ∷ queue) =
      IsGood end message × AreGood (after_message e end message) queue

  -- What is on its way from a writer to a reader. Both ends are taken as they were without what is
  -- on its way, in either direction: an end's log is that of its end here, and behind it what the
  -- other has not read (unread). It leads to the common document, has been read by the other, and
  -- is there as long as it is not counted. What is unread is what the reader here will make of the
  -- messages; and all of the log may be made.
  pub record IsOnTheWay (common : Doc) (writer reader : End Doc Op) (queue : List (Message Op))
      (unread : List Op) : Type 0 where
    pub common_is : all_done e writer.base writer.log ≡ common
    pub counts : writer.counted + length writer.log ≡ reader.read
    pub may : AllMay e writer.base (writer.log ++ unread)
    pub unread_is : unread ≡ all_became e reader queue
    pub good : AreGood reader queue

  -- the whole link: from a common document each server's is reached by what the other has not read
  pub record IsInFlight (near far : Side Doc Op) : Type 0 where
    pub common : Doc
    pub near_end : End Doc Op
    pub far_end : End Doc Op
    pub near_unread : List Op
    pub far_unread : List Op
    pub near_is : near.end ≡ with_more near_end near_unread
    pub far_is : far.end ≡ with_more far_end far_unread
    pub near_reached : near.doc ≡ all_done e common near_unread
    pub far_reached : far.doc ≡ all_done e common far_unread
    pub forth : IsOnTheWay common near_end far_end near.queue near_unread
    pub back : IsOnTheWay common far_end near_end far.queue far_unread
