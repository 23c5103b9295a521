-- What an edition shows of a span or chunk: a function of its fields and of what its maps read by key, so that nothing else can be seen. And what a mark may change of it.
use Rattle.std.specs.Prelude.{◌≡◌, ℕ, Bool, false, List, Some, Option, Float}
use Rattle.std.specs.Str.{bytes_eq}
use Rattle.texts.specs.declared.stock.Text.{Text}
use Rattle.texts.specs.declared.stock.WellKnown.TheVariants.{TopLevel}
use Rattle.texts.specs.Stocks.{Texts, spelling}
use Rattle.span.specs.declared.fields.Fields.{Fields}
use Rattle.span.specs.declared.tag.Priority.{Priority}
use Rattle.span.specs.declared.tag.Tag.{Tag}
use Rattle.span.specs.declared.value.Value.{Value}
use Rattle.span.specs.declared.value.Value.TheVariants as of
use Rattle.span.specs.Model.{Bytes, Maps}
use Rattle.span.specs.Readings.{Readings, Face, readings, maps_at, face_at}

-- what can be seen of a span
pub record Sight : Type 0 where
  pub failed : Bool
  pub sampled : Bool
  -- what it says of the priority of its chunk
  pub priority : Option Priority
  pub resource : Bytes
  pub tag : Bytes → Option Tag
  pub number : Bytes → Option Float

-- what can be seen of a chunk, its spans aside
pub record ChunkSight : Type 0 where
  pub priority : Option Priority
  pub tag : Bytes → Option Tag

pub data Kind : Type 0 where
  of_span of_chunk : Kind

pub record View (H O : Type 0) : Type 0 where
  -- how many maps a span or chunk has
  pub arity : Kind → ℕ
  -- the map that a value is inserted into, if the edition has one
  pub home : Kind → Value → Option ℕ
  -- the texts among the fields, in their order
  pub span_texts : Fields O → List Text
  pub chunk_texts : H → List Text
  pub sees : Texts → Face O → Sight
  pub sees_chunk : Texts → H → Readings → ChunkSight

-- 1.0, which a mark inserts: the bits of the float
abbrev pub mark_value : Value
mark_value = of.Float 4607182418800017408

-- the same fields, and the same readings but at the key `_top_level` of the map that a mark goes to
pub record OffMark {H O : Type 0} (v : View H O) (x y : Face O) : Type 0 where
  pub fields : y.fields ≡ x.fields
  pub reads : (i : ℕ) (q : Bytes) → (v.home Kind.of_span mark_value ≡ Some i → bytes_eq (spelling TopLevel) q ≡ false) → y.reads i q ≡ x.reads i q

-- a mark is seen at that key alone, as a number or tag
pub record MarkUnseen {H O : Type 0} (t : Texts) (v : View H O) : Type 0 where
  pub failed : (x y : Face O) → OffMark v x y → (v.sees t y).failed ≡ (v.sees t x).failed
  pub sampled : (x y : Face O) → OffMark v x y → (v.sees t y).sampled ≡ (v.sees t x).sampled
  pub priority : (x y : Face O) → OffMark v x y → (v.sees t y).priority ≡ (v.sees t x).priority
  pub resource : (x y : Face O) → OffMark v x y → (v.sees t y).resource ≡ (v.sees t x).resource
  pub tag : (x y : Face O) → OffMark v x y → (q : Bytes) → bytes_eq (spelling TopLevel) q ≡ false → (v.sees t y).tag q ≡ (v.sees t x).tag q
  pub number : (x y : Face O) → OffMark v x y → (q : Bytes) → bytes_eq (spelling TopLevel) q ≡ false → (v.sees t y).number q ≡ (v.sees t x).number q

-- what is seen of the span with these fields whose maps stand at a place
abbrev pub sight : {H O : Type 0} → View H O → Texts → Fields O → List Maps → ℕ → Sight
sight v t f rows i = v.sees t (face_at t f rows i)

-- what is seen of the chunk with this head whose maps stand at a place
abbrev pub chunk_sight : {H O : Type 0} → View H O → Texts → H → List Maps → ℕ → ChunkSight
chunk_sight v t h rows i = v.sees_chunk t h (readings t (maps_at rows i))
