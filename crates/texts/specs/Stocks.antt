-- What a stock of texts means: which texts it knows, and the bytes that each reads as.
use Rattle.std.specs.Prelude.{◌≡◌, ℕ, Bool, true, false, cond, List, [], ◌∷◌, length, Ok, Err, codes, Result, nat_le}
use Rattle.std.specs.Str.{bytes_eq}
use Rattle.texts.specs.Outcomes.{Outcome}
use Rattle.texts.specs.Outcomes.Outcome.{taken, refused}
use Rattle.texts.specs.declared.stock.Text.{Text}
use Rattle.texts.specs.declared.stock.StockFault.{StockFault}
use Rattle.texts.specs.declared.stock.StockFault.TheVariants.{Unknown, NoSpace, TooLong}
use Rattle.texts.specs.declared.stock.WellKnown.{WellKnown}
use Rattle.texts.specs.declared.stock.WellKnown.TheVariants.{TopLevel}

-- the texts that every stock holds from its making, in the order in which it gets them, and the bytes of each
abbrev pub well_known : List WellKnown
well_known = TopLevel ∷ []

abbrev pub spelling : WellKnown → List ℕ
spelling TopLevel = codes "_top_level"

-- the longest text
abbrev pub longest : ℕ
longest = 65535

-- the most bytes that a stock uses
abbrev pub most_bytes : ℕ
most_bytes = 1048576

pub record Texts : Type 0 where
  pub known : Text → Bool
  pub bytes : Text → List ℕ
  -- the text that a well-known one became at the making
  pub held : WellKnown → Text

-- a text that is not known reads as the empty one, and the well-known texts are held
pub record Sound (s : Texts) : Type 0 where
  pub unknown : (t : Text) → s.known t ≡ false → s.bytes t ≡ []
  pub held_known : (w : WellKnown) → s.known (s.held w) ≡ true
  pub held_reads : (w : WellKnown) → s.bytes (s.held w) ≡ spelling w

-- texts are the same where their bytes are
abbrev pub same_text : Texts → Text → Text → Bool
same_text s a b = bytes_eq (s.bytes a) (s.bytes b)

-- a call that goes on only with a known text
abbrev pub if_known : Texts → Text → Outcome (Unit {0}) (Unit {0}) StockFault
if_known s t = cond (s.known t) (taken tt tt) (refused (Unknown t))

-- from s to s' nothing is forgotten: what was known is known, and reads as before
pub record Keeps (s s' : Texts) : Type 0 where
  pub known : (t : Text) → s.known t ≡ true → s'.known t ≡ true
  pub reads : (t : Text) → s.known t ≡ true → s'.bytes t ≡ s.bytes t
  pub held : (w : WellKnown) → s'.held w ≡ s.held w

-- why a put of so many bytes is refused, where it is
abbrev pub fault_of_put : ℕ → StockFault
fault_of_put len = cond (nat_le len longest) NoSpace TooLong

-- a put of the bytes bs answered r: where there is room, a known text that reads as they do, with nothing forgotten; else a refusal, with nothing changed
abbrev pub Put : Texts → Texts → Bool → List ℕ → Result Text StockFault → Type 0
Put s s' room bs (Ok t) = (room ≡ true) × (s'.known t ≡ true) × (s'.bytes t ≡ bs) × Keeps s s'
Put s s' room bs (Err e) = (room ≡ false) × (e ≡ fault_of_put (length bs)) × (s' ≡ s)
