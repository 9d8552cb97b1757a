-- The laws of documents that two ends edit. Each is the contract of a public function of this
-- crate.
use Rattle.std.specs.Prelude.{◌≡◌, ℕ, List, [], ◌∷◌}
use Rattle.irc_relay.specs.Links.{Name, AreLinked, AreJoined, IsForest}
use Rattle.irc_documents.specs.Editing.{Editing, Meet, HasDiamond}
use Rattle.irc_documents.specs.Lists.{AllMay, all_through, behind_all, AllMeet, ListsCross}
use Rattle.irc_documents.specs.Pieces.{Cut, in_pieces}
use Rattle.irc_documents.specs.Ends.{Message, told, AreCounts, became}
use Rattle.irc_documents.specs.Flight.{IsInFlight}
use Rattle.irc_documents.specs.Networks.{Net, Step, side, after, after_all, MayBe, AllMayBe}
use Rattle.irc_documents.specs.Networks.{IsMet, Meeting, StepsMeet}

module _ {Doc Op : Type 0} (e : Editing Doc Op) where
  -- lists of which each two operations have the diamond cross as single operations do
  abbrev pub ListsMeet : Type 0
  ListsMeet = (s : Doc) (ours theirs : List Op) → AllMay e s ours → AllMay e s theirs
      → AllMeet e s ours theirs → ListsCross e s ours theirs

  -- what becomes of a list behind another is the same, whichever of the two is gone along
  abbrev pub GridTurns : Type 0
  GridTurns = (s : Doc) (ours theirs : List Op) → AllMeet e s ours theirs
      → behind_all e s ours theirs ≡ all_through e s ours theirs

  -- so pieces have the diamond if each two of theirs have it, and all laws below are of pieces too
  abbrev pub PiecesMeet : Type 0
  PiecesMeet = (s : Doc) (ours theirs : List Op) → AllMay e s ours → AllMay e s theirs
      → AllMeet e s ours theirs → (cut : Cut e) → Meet (in_pieces e cut) s ours theirs

  abbrev pub PiecesHaveDiamond : Type 0
  PiecesHaveDiamond = HasDiamond e → (cut : Cut e) → HasDiamond (in_pieces e cut)

  -- ---- networks

  -- the links are a forest, and each is in flight
  pub record IsSound (net : Net Doc Op) : Type 0 where
    pub forest : IsForest net.links
    pub in_flight : (s t : Name) → AreLinked net.links s t
        → IsInFlight e (side net s t) (side net t s)

  -- nothing is on its way between s and t, or counts alone
  pub record IsQuiet (net : Net Doc Op) (s t : Name) : Type 0 where
    pub forth : AreCounts (net.queue s t)
    pub back : AreCounts (net.queue t s)

  -- nor in the part of s
  abbrev pub IsQuietPart : Net Doc Op → Name → Type 0
  IsQuietPart net s = (x y : Name) → AreJoined net.links s x → AreLinked net.links x y
      → IsQuiet net x y

  -- both ends of a link on which nothing is on its way have one document
  abbrev pub EndsAreAlike : Net Doc Op → Type 0
  EndsAreAlike net = (s t : Name) → AreLinked net.links s t → IsQuiet net s t
      → net.doc s ≡ net.doc t

  -- so have all servers of a part in which nothing is on its way
  abbrev pub PartsAreAlike : Net Doc Op → Type 0
  PartsAreAlike net = (s t : Name) → AreJoined net.links s t → IsQuietPart net s
      → net.doc s ≡ net.doc t

  -- while no operation is on its way from t to s, t would make of what s writes just what it is
  abbrev pub UncrossedAsMade : Net Doc Op → Type 0
  UncrossedAsMade net = (s t : Name) (op : Op) → AreLinked net.links s t
      → AreCounts (net.queue t s) → became e (net.end t s) (net.end s t).read op ≡ op

  -- what t is asked to do by the message from s that it reads next may be made there
  abbrev pub MayBeAsked : Net Doc Op → Type 0
  MayBeAsked net =
      (s t : Name) (count : ℕ) (op : Op) (queue : List (Message Op)) → AreLinked net.links s t
      → net.queue s t ≡ told count op ∷ queue → e.may (net.doc t) (became e (net.end t s) count op)

  -- where it has the diamond with what it crosses
  abbrev pub MayBeAskedIfMet : Net Doc Op → Type 0
  MayBeAskedIfMet net =
      (s t : Name) (count : ℕ) (op : Op) (queue : List (Message Op)) → AreLinked net.links s t
      → net.queue s t ≡ told count op ∷ queue → IsMet e (net.end t s) (net.queue s t)
      → e.may (net.doc t) (became e (net.end t s) count op)

  -- a fact of every network that comes of one without links, whatever happens, if each two that
  -- cross on the way have the diamond
  abbrev pub OfMetRuns : (Net Doc Op → Type 0) → Type 0
  OfMetRuns Fact = (start : Net Doc Op) (steps : List (Step Op)) → start.links ≡ []
      → AllMayBe e start steps → StepsMeet e start steps → Fact (after_all e start steps)

  -- that is so step by step
  abbrev pub StepKeepsSound : Type 0
  StepKeepsSound = (net : Net Doc Op) (step : Step Op) → MayBe e net step → Meeting e net step
      → IsSound net → IsSound (after e net step)

  abbrev pub LinksAreInFlight : Type 0
  LinksAreInFlight = OfMetRuns IsSound

  abbrev pub EndsRestAlike : Type 0
  EndsRestAlike = OfMetRuns EndsAreAlike

  abbrev pub PartsRestAlike : Type 0
  PartsRestAlike = OfMetRuns PartsAreAlike

  abbrev pub UncrossedIsAsMade : Type 0
  UncrossedIsAsMade = OfMetRuns UncrossedAsMade

  abbrev pub AskedMayBeMade : Type 0
  AskedMayBeMade = OfMetRuns MayBeAskedIfMet

  -- each two that cross have it, if each two have it that can be made in one document
  abbrev pub StepsMeetByDiamond : Type 0
  StepsMeetByDiamond = HasDiamond e → (start : Net Doc Op) (steps : List (Step Op))
      → start.links ≡ [] → AllMayBe e start steps → StepsMeet e start steps

  -- so then all of it holds, with no further premise
  pub record GoesWell (net : Net Doc Op) : Type 0 where
    pub sound : IsSound net
    pub ends : EndsAreAlike net
    pub parts : PartsAreAlike net
    pub uncrossed : UncrossedAsMade net
    pub asked : MayBeAsked net

  abbrev pub AlwaysGoesWell : Type 0
  AlwaysGoesWell = (start : Net Doc Op) (steps : List (Step Op)) → start.links ≡ []
      → AllMayBe e start steps → GoesWell (after_all e start steps)

  abbrev pub AllGoesWell : Type 0
  AllGoesWell = HasDiamond e → AlwaysGoesWell
