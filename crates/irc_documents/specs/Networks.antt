-- Servers with a document each, on a forest of links, each of which is such a document.
--
-- a - b - c, all registers with 0: a writes 3 and c writes 5, both told to b. When b has read the
-- 3 and then the 5, it has given the 3 to c, where it becomes nothing, and the 5 to a. All have 5.
use Rattle.std.specs.Prelude.{◌≡◌, ◌≢◌, Bool, not, ◌&&◌, if◌then◌else◌, List, [], ◌∷◌, ◌++◌}
use Rattle.std.specs.Prelude.{map}
use Rattle.irc_relay.specs.Links.{Name, same, Link, part, linked, AreLinked, links_without}
use Rattle.irc_documents.specs.Editing.{Editing}
use Rattle.irc_documents.specs.Lists.{all_done, AllMay, Meets}
use Rattle.irc_documents.specs.Ends.{Message, told, only_count, End, with_more, written}
use Rattle.irc_documents.specs.Ends.{counted_off, became, after_message}
use Rattle.irc_documents.specs.Flight.{Side}

-- each server's document; the end that s has of its link to t; what is on its way from s to t,
-- oldest first
pub record Net (Doc Op : Type 0) : Type 0 where
  pub links : List Link
  pub doc : Name → Doc
  pub end : Name → Name → End Doc Op
  pub queue : Name → Name → List (Message Op)

-- the side of s of its link to t
abbrev pub side : {Doc Op : Type 0} → Net Doc Op → Name → Name → Side Doc Op
side net s t = record { doc = net.doc s; end = net.end s t; queue = net.queue s t }

-- from x to y is from s to t
abbrev pub is_from : Name → Name → Name → Name → Bool
is_from s t x y = same x s && same y t

-- What happens: a server is given an operation, which clients ask for, or which it does by itself;
-- s tells t how many it has read; t reads the first message from s; a link is made, for which each
-- end has operations that make its document out of the blank one; a link is lost.
pub data Step (Op : Type 0) : Type 0 where
  given : (s : Name) (op : Op) → Step Op
  counts_to : (s t : Name) → Step Op
  read_from : (s t : Name) → Step Op
  made : (l : Link) (near far : List Op) → Step Op
  lost : (s t : Name) → Step Op

module _ {Doc Op : Type 0} (e : Editing Doc Op) where
  -- the server s does an operation, and gives it to those whom hears tells, as its own
  abbrev pub done_at : Net Doc Op → Name → (Name → Bool) → Op → Net Doc Op
  done_at net s hears op = record {
    links = net.links;
    doc = λ x. if same x s then e.done (net.doc x) op else net.doc x;
    end = λ x y.
        if same x s && hears y then with_more (net.end x y) (e.told_as op) else net.end x y;
    queue = λ x y.
        if same x s && hears y then
        net.queue x y ++ map (written (net.end x y)) (e.told_as op)
        else net.queue x y;
  }

  -- s puts a count alone on its way to t
  abbrev pub counted_at : Net Doc Op → Name → Name → Net Doc Op
  counted_at net s t = record net {
    queue = λ x y.
        if is_from s t x y then net.queue x y ++ only_count (net.end x y).read ∷ []
        else net.queue x y;
  }

  -- the end at t has read the first message from s, behind which these are on their way
  abbrev pub taken : Net Doc Op → Name → Name → Message Op → List (Message Op) → Net Doc Op
  taken net s t message queue = record {
    links = net.links;
    doc = net.doc;
    end = λ x y.
        if is_from t s x y then after_message e (net.end x y) message else net.end x y;
    queue = λ x y. if is_from s t x y then queue else net.queue x y;
  }

  -- t does what became of an operation, and gives that to each of its other neighbours
  abbrev pub read_as : List (Message Op) → Net Doc Op → Name → Name → Net Doc Op
  read_as [] net s t = net
  read_as (told count op ∷ queue) net s t =
      done_at (taken net s t (told count op) queue) t
      (λ u. linked net.links t u && not (same u s)) (became e (net.end t s) count op)
  read_as (only_count count ∷ queue) net s t = taken net s t (only_count count) queue

  -- an end whose log these are, and nothing was read or counted
  abbrev pub begun : List Op → End Doc Op
  begun ops = record { base = e.blank; log = ops; counted = 0; read = 0 }

  abbrev pub sent : List Op → List (Message Op)
  sent ops = map (λ op. told 0 op) ops

  -- the link between s and t begins anew, from these operations at s and those at t
  abbrev pub anew : Net Doc Op → List Link → Name → Name → List Op → List Op → Net Doc Op
  anew net links s t here there = record {
    links = links;
    doc = net.doc;
    end = λ x y.
        if is_from s t x y then begun here
        else if is_from t s x y then begun there
        else net.end x y;
    queue = λ x y.
        if is_from s t x y then sent here
        else if is_from t s x y then sent there
        else net.queue x y;
  }

  abbrev pub after : Net Doc Op → Step Op → Net Doc Op
  after net (given s op) = done_at net s (linked net.links s) op
  after net (counts_to s t) = counted_at net s t
  after net (read_from s t) = read_as (net.queue s t) net s t
  after net (made l near far) = anew net (l ∷ net.links) l.near l.far near far
  after net (lost s t) = anew net (links_without net.links s t) s t [] []

  abbrev pub after_all : Net Doc Op → List (Step Op) → Net Doc Op
  after_all net [] = net
  after_all net (step ∷ steps) = after_all (after net step) steps

  -- these operations make this document out of the blank one
  pub record Makes (ops : List Op) (s : Doc) : Type 0 where
    pub may : AllMay e e.blank ops
    pub made : all_done e e.blank ops ≡ s

  -- a link that can be made: it joins two parts, and each end tells its document
  pub record MayBeMade (net : Net Doc Op) (l : Link) (near far : List Op) : Type 0 where
    pub apart : part net.links l.near ≢ part net.links l.far
    pub near_makes : Makes near (net.doc l.near)
    pub far_makes : Makes far (net.doc l.far)

  -- a step that can happen. What is read is not asked for anything
  abbrev pub MayBe : Net Doc Op → Step Op → Type 0
  MayBe net (given s op) = e.may (net.doc s) op
  MayBe net (counts_to s t) = AreLinked net.links s t
  MayBe net (read_from s t) = AreLinked net.links s t
  MayBe net (made l near far) = MayBeMade net l near far
  MayBe net (lost s t) = AreLinked net.links s t

  abbrev pub AllMayBe : Net Doc Op → List (Step Op) → Type 0
  AllMayBe net [] = Unit
  AllMayBe net (step ∷ steps) = MayBe net step × AllMayBe (after net step) steps

  -- the operation that an end reads, if it is one, has the diamond with each of the end's log
  abbrev pub IsMet : End Doc Op → List (Message Op) → Type 0
  IsMet end [] = Unit
  IsMet end (told count op ∷ queue) =
      Meets e (counted_off e end count).base (counted_off e end count).log op
  IsMet end (only_count count ∷ queue) = Unit

  abbrev pub Meeting : Net Doc Op → Step Op → Type 0
  Meeting net (read_from s t) = IsMet (net.end t s) (net.queue s t)
  Meeting net _ = Unit

  -- so it is of all that cross in these steps
  abbrev pub StepsMeet : Net Doc Op → List (Step Op) → Type 0
  StepsMeet net [] = Unit
  StepsMeet net (step ∷ steps) = Meeting net step × StepsMeet (after net step) steps
