-- One end of a link: what it keeps, what it writes, and what it makes of what it reads.
--
-- The register is 0 at both ends, one writes 3 and the other 5, and each message says that nothing
-- was read so far. The first reads the 5, which goes through its log, the 3: it does 5, and its
-- log is now nothing, an operation that does nothing, behind the 5. It writes 8, in a message that
-- says that one was read: the other then takes the 5 out of its log, and the 8 stands as it is.
use Rattle.std.specs.Prelude.{ℕ, suc, ◌-◌, List, [], ◌∷◌, ◌++◌, take, drop}
use Rattle.irc_documents.specs.Editing.{Editing}
use Rattle.irc_documents.specs.Lists.{all_done, through, behind}

-- An operation as it was made at its writer, with how many its writer had read by then; or that
-- count alone.
pub data Message (Op : Type 0) : Type 0 where
  told : (count : ℕ) (op : Op) → Message Op
  only_count : (count : ℕ) → Message Op

-- no operation is among these
abbrev pub AreCounts : {Op : Type 0} → List (Message Op) → Type 0
AreCounts [] = Unit
AreCounts (told count op ∷ queue) = ⊥
AreCounts (only_count count ∷ queue) = AreCounts queue

-- The log is the end's own operations that the other end has not counted as read, as they are now:
-- behind all that this end has read. It begins in the document base, which the other end had as
-- well. So many of its own are counted as read, and so many of the other's it has read.
pub record End (Doc Op : Type 0) : Type 0 where
  pub base : Doc
  pub log : List Op
  pub counted : ℕ
  pub read : ℕ

-- with operations behind its log
abbrev pub with_more : {Doc Op : Type 0} → End Doc Op → List Op → End Doc Op
with_more end more = record end { log = end.log ++ more }

-- an operation of its own, as it is written
abbrev pub written : {Doc Op : Type 0} → End Doc Op → Op → Message Op
written end op = told end.read op

module _ {Doc Op : Type 0} (e : Editing Doc Op) where
  -- what the other end says that it has read leaves the log's front
  abbrev pub counted_off : End Doc Op → ℕ → End Doc Op
  counted_off end count = record {
    base = all_done e end.base (take (count - end.counted) end.log);
    log = drop (count - end.counted) end.log;
    counted = count;
    read = end.read;
  }

  -- what becomes of an operation that comes with this count, which is what the server does
  abbrev pub became : End Doc Op → ℕ → Op → Op
  became end count op =
      through e (counted_off end count).base op (counted_off end count).log

  -- and the end once it has read it
  abbrev pub after_told : End Doc Op → ℕ → Op → End Doc Op
  after_told end count op = record {
    base = e.done (counted_off end count).base op;
    log = behind e (counted_off end count).base (counted_off end count).log op;
    counted = count;
    read = suc end.read;
  }

  abbrev pub after_message : End Doc Op → Message Op → End Doc Op
  after_message end (told count op) = after_told end count op
  after_message end (only_count count) = counted_off end count

  -- what becomes of the operations in all these messages
  abbrev pub all_became : End Doc Op → List (Message Op) → List Op
  all_became end [] = []
  all_became end (told count op ∷ queue) =
      became end count op ∷ all_became (after_told end count op) queue
  all_became end (only_count count ∷ queue) = all_became (counted_off end count) queue
