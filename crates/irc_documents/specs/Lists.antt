-- Operations one behind another, and lists of them that cross.
--
-- In the register 0 one end writes 3 and then 7 (its log), and the other 5. The 5 through the log
-- is 5 behind 3, and nothing behind 7; the log behind the 5 is nothing, and then 7. Both have 7.
use Rattle.std.specs.Prelude.{◌≡◌, List, [], ◌∷◌}
use Rattle.irc_documents.specs.Editing.{made_of, CanBeMade, Editing, Meet}

module _ {Doc Op : Type 0} (e : Editing Doc Op) where
  -- a document after operations, one behind another
  abbrev pub all_done : Doc → List Op → Doc
  all_done s ops = made_of e.done s ops

  -- each of them can be made where it stands
  abbrev pub AllMay : Doc → List Op → Type 0
  AllMay s ops = CanBeMade e.done e.may s ops

  -- what becomes of b behind all of a log, where b and the log were made in s
  abbrev pub through : Doc → Op → List Op → Op
  through s b [] = b
  through s b (a ∷ log) = through (e.done s a) (e.crossed s b a) log

  -- what becomes of the log behind b
  abbrev pub behind : Doc → List Op → Op → List Op
  behind s [] b = []
  behind s (a ∷ log) b = e.crossed s a b ∷ behind (e.done s a) log (e.crossed s b a)

  -- the diamond of b with each of a log, as it comes to it
  abbrev pub Meets : Doc → List Op → Op → Type 0
  Meets s [] b = Unit
  Meets s (a ∷ log) b = Meet e s a b × Meets (e.done s a) log (e.crossed s b a)

  -- what becomes of a list of operations behind the log, and of the log behind the list
  abbrev pub all_through : Doc → List Op → List Op → List Op
  all_through s [] log = []
  all_through s (b ∷ more) log =
      through s b log ∷ all_through (e.done s b) more (behind s log b)

  abbrev pub behind_all : Doc → List Op → List Op → List Op
  behind_all s log [] = log
  behind_all s log (b ∷ more) = behind_all (e.done s b) (behind s log b) more

  -- the diamond of each two of two lists, as they come to each other
  abbrev pub AllMeet : Doc → List Op → List Op → Type 0
  AllMeet s log [] = Unit
  AllMeet s log (b ∷ more) = Meets s log b × AllMeet (e.done s b) (behind s log b) more

  -- ours and theirs, both made in s: each list behind the other leads to the same document, and
  -- can be made there
  pub record ListsCross (s : Doc) (ours theirs : List Op) : Type 0 where
    pub same : all_done (all_done s ours) (all_through s theirs ours)
        ≡ all_done (all_done s theirs) (behind_all s ours theirs)
    pub theirs_may : AllMay (all_done s ours) (all_through s theirs ours)
    pub ours_may : AllMay (all_done s theirs) (behind_all s ours theirs)
