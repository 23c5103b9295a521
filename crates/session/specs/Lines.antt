-- Lines of a text, and words of a line: what stands before the byte that ends one, and what stands behind it.
use Rattle.std.specs.Prelude.{◌≡◌, ℕ, Bool, true, cond, not, List, [], ◌∷◌, ◌++◌, Some, None, Option, ◌==◌, nat_lt}
use Rattle.std.specs.List.{list_all}

-- no byte up to the space
abbrev pub unspaced : List ℕ → Bool
unspaced cs = list_all (λ c. nat_lt 32 c) cs

-- what stands before the first byte `end`
abbrev pub front : ℕ → List ℕ → List ℕ
front end [] = []
front end (c ∷ cs) = cond (c == end) [] (c ∷ front end cs)

-- what follows the first byte `end`, if there is one
abbrev pub behind : ℕ → List ℕ → Option (List ℕ)
behind end [] = None
behind end (c ∷ cs) = cond (c == end) (Some cs) (behind end cs)

-- a line's first word stands before the first space, and its other words behind it
abbrev pub first_word : List ℕ → List ℕ
first_word line = front 32 line

abbrev pub more_words : List ℕ → Option (List ℕ)
more_words line = behind 32 line

-- the first line of a text stands before the first line feed, and its other lines behind it
abbrev pub first_line : List ℕ → List ℕ
first_line text = front 10 text

abbrev pub more_lines : List ℕ → Option (List ℕ)
more_lines text = behind 10 text

-- the byte `end` and what follows it, or nothing
abbrev pub tail : ℕ → Option (List ℕ) → List ℕ
tail end None = []
tail end (Some cs) = end ∷ cs

-- the byte `end` is not among the bytes
abbrev pub lacks : ℕ → List ℕ → Bool
lacks end cs = list_all (λ c. not (c == end)) cs

-- a line that was put together of words is cut into the same words
pub record CutsWords : Type 0 where
  pub last : (word : List ℕ) → unspaced word ≡ true → (first_word word ≡ word) × (more_words word ≡ None)
  pub first : (word more : List ℕ) → unspaced word ≡ true → (first_word (word ++ 32 ∷ more) ≡ word) × (more_words (word ++ 32 ∷ more) ≡ Some more)

-- what follows the mark that a word begins with
abbrev pub past_mark : ℕ → List ℕ → Option (List ℕ)
past_mark mark [] = None
past_mark mark (c ∷ cs) = cond (c == mark) (Some cs) None
