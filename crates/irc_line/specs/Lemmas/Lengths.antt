-- How long a line is, by its parts.
use Rattle.std.proofs.Common.{◌≡◌, ℕ, suc, ◌+◌, Option, Some, None, List, [], ◌∷◌, ◌++◌, length}
use Rattle.std.proofs.Common.{refl, arith, length-append}
use Rattle.irc_line.specs.Bytes.{space, exclamation_mark, at_sign}
use Rattle.irc_line.specs.Messages.{Written, joined_text, middle_text, last_text, prefix_text}
use Rattle.irc_line.specs.Messages.{prefix_of, full_name, named, full}

-- words, each behind a space
abbrev pub words_size : List (List ℕ) → ℕ
words_size [] = 0
words_size (word ∷ words) = 1 + length word + words_size words

-- a last word, behind a space and a colon
abbrev pub last_size : Option (List ℕ) → ℕ
last_size None = 0
last_size (Some last) = 2 + length last

pub length-middle_text : (words : List (List ℕ)) → length (middle_text words) ≡ words_size words
length-middle_text [] = refl
length-middle_text (word ∷ words) =
    let rest = length-middle_text words in
    let parts = length-append (space ∷ word) (middle_text words) in
    omega (arith, rest, parts)

pub length-last_text : (last : Option (List ℕ)) → length (last_text last) ≡ last_size last
length-last_text None = refl
length-last_text (Some last) = omega arith

added : (all three two prefix command middle last words end : ℕ) → all ≡ three + last
    → three ≡ two + middle → two ≡ prefix + command → middle ≡ words → last ≡ end
    → all ≡ prefix + (command + (words + end))
added all three two prefix command middle last words end first second third middle_is last_is =
    omega arith

pub length-joined_text : (parts : Written)
    → length (joined_text parts) ≡ length (prefix_text (prefix_of parts.sender))
    + (length parts.command + (words_size parts.middle + last_size parts.last))
length-joined_text parts =
    let prefix = prefix_text (prefix_of parts.sender) in
    let two = prefix ++ parts.command in
    let middle = middle_text parts.middle in
    let last = last_text parts.last in
    added (length (joined_text parts)) (length (two ++ middle)) (length two) (length prefix)
    (length parts.command) (length middle) (length last)
    (words_size parts.middle) (last_size parts.last) (length-append (two ++ middle) last)
    (length-append two middle) (length-append prefix parts.command)
    (length-middle_text parts.middle) (length-last_text parts.last)

-- a prefix, with its colon and space
pub length-named : (name : List ℕ) → length (prefix_text (prefix_of (named name))) ≡ length name + 2
length-named name = let behind = length-append name (space ∷ []) in omega (arith, behind)

full_size : (all spaced name before_host named_user marked nick user host : ℕ) → all ≡ suc spaced
    → spaced ≡ name + 1 → name ≡ before_host + host → before_host ≡ named_user + 1
    → named_user ≡ marked + user → marked ≡ nick + 1 → all ≡ nick + (user + (host + 4))
full_size all spaced name before_host named_user marked nick user host whole space_is host_is at_is
    user_is mark_is = omega arith

pub length-full : (nick user host : List ℕ) → length (prefix_text (prefix_of (full nick user host)))
    ≡ length nick + (length user + (length host + 4))
length-full nick user host =
    let marked = nick ++ exclamation_mark ∷ [] in
    let named_user = marked ++ user in
    let before_host = named_user ++ at_sign ∷ [] in
    let name = full_name nick user host in
    full_size (length (prefix_text (prefix_of (full nick user host)))) (length (name ++ space ∷ []))
    (length name) (length before_host) (length named_user)
    (length marked) (length nick) (length user) (length host) refl (length-append name (space ∷ []))
    (length-append before_host host)
    (length-append named_user (at_sign ∷ [])) (length-append marked user)
    (length-append nick (exclamation_mark ∷ []))
