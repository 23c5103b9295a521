-- The tables of maps of a batch, as lists: the maps of each chunk, and those of each span over the whole batch.
use Rattle.std.specs.Prelude.{◌≡◌, ℕ, true, false, cond, List, [], ◌∷◌, ◌++◌, length, replicate, Ok, Err, Option, Result, nat_lt}
use Rattle.texts.specs.declared.stock.Text.{Text}
use Rattle.texts.specs.declared.stock.StockFault.{StockFault}
use Rattle.texts.specs.Stocks.{Texts, same_text, if_known}
use Rattle.texts.specs.Outcomes.{Outcome, carry, at_place}
use Rattle.texts.specs.Outcomes.Outcome.{taken, refused}
use Rattle.vec_map.specs.declared.fault.MapFault.{MapFault}
use Rattle.vec_map.specs.declared.fault.MapFault.TheVariants.{Full, NoPlace}
use Rattle.vec_map.specs.Entries.{entry_at}
use Rattle.vec_map.specs.Maps.{Map, blank}
use Rattle.map_table.specs.declared.table.TableFault.{TableFault}
use Rattle.map_table.specs.declared.table.TableFault.TheVariants.{Stride, Memory}
use Rattle.map_table.specs.declared.table.edits.Edit.{Edit}
use Rattle.map_table.specs.Rows.{stride_fits}
use Rattle.span.specs.declared.edition.SpanAt.{SpanAt}
use Rattle.span.specs.declared.edition.ChunkAt.{ChunkAt}
use Rattle.span.specs.declared.owner.Owner.{Owner}
use Rattle.span.specs.declared.owner.Owner.TheVariants as at
use Rattle.span.specs.declared.shape.Shape.{Shape}
use Rattle.span.specs.declared.value.Value.{Value}
use Rattle.span.specs.Edits.{edit_maps}
use Rattle.span.specs.Model.{Maps}
use Rattle.span.specs.Readings.{maps_at}
use Rattle.span.specs.Views.{Kind, View, Sight, ChunkSight, sight, chunk_sight}
use Rattle.span.specs.Views.Kind.{of_span, of_chunk}

pub record Table : Type 0 where
  pub stride : ℕ
  pub chunk_room : ℕ
  pub span_room : ℕ
  pub chunks : List Maps
  pub spans : List Maps

abbrev pub with_spans : Table → List Maps → Table
with_spans t ms = record { stride = t.stride; chunk_room = t.chunk_room; span_room = t.span_room; chunks = t.chunks; spans = ms }

abbrev pub with_chunks : Table → List Maps → Table
with_chunks t ms = record { stride = t.stride; chunk_room = t.chunk_room; span_room = t.span_room; chunks = ms; spans = t.spans }

-- how far it goes
abbrev pub shape_of : Table → Shape
shape_of t = record { stride = t.stride; chunk_room = t.chunk_room; span_room = t.span_room; chunks = length t.chunks; spans = length t.spans }

-- a new table has no rows; it is refused exactly for a stride that does not fit, and else there may be no memory
abbrev pub TablesMade : {M : Type 0} → (M → Table) → ℕ → ℕ → ℕ → Result M TableFault → Type 0
TablesMade table stride chunks spans (Ok m) = (stride_fits stride ≡ true) × (table m ≡ record { stride = stride; chunk_room = chunks; span_room = spans; chunks = []; spans = [] })
TablesMade table stride chunks spans (Err Stride) = stride_fits stride ≡ false
TablesMade table stride chunks spans (Err Memory) = stride_fits stride ≡ true

-- a call on the maps of one owner
abbrev pub on_owner : {R : Type 0} → (Kind → Maps → Outcome Maps R MapFault) → Owner → Table → Outcome Table R MapFault
on_owner f (at.Span p) t = carry (with_spans t) (at_place NoPlace (f of_span) t.spans p)
on_owner f (at.Chunk p) t = carry (with_chunks t) (at_place NoPlace (f of_chunk) t.chunks p)

module _ {H O : Type 0} (v : View H O) where
  -- an edit of the maps of one owner
  abbrev pub edit_owner : Texts → Edit Value → Owner → Table → Outcome Table (Unit {0}) MapFault
  edit_owner t e o b = on_owner (λ kind. edit_maps (same_text t) b.stride (v.home kind) e) o b

  -- the maps that a new owner has
  abbrev pub blank_maps : Kind → Maps
  blank_maps kind = replicate (v.arity kind) blank

  -- one row more wants room for it
  abbrev pub chunk_row_added : Table → Outcome Table (Unit {0}) MapFault
  chunk_row_added t = cond (nat_lt (length t.chunks) t.chunk_room) (taken (with_chunks t (t.chunks ++ (blank_maps of_chunk ∷ []))) tt) (refused Full)

  abbrev pub span_row_added : Table → Outcome Table (Unit {0}) MapFault
  span_row_added t = cond (nat_lt (length t.spans) t.span_room) (taken (with_spans t (t.spans ++ (blank_maps of_span ∷ []))) tt) (refused Full)

-- a call that goes on only with known texts; the first that is not known is told
abbrev pub if_all_known : Texts → List Text → Outcome (Unit {0}) (Unit {0}) StockFault
if_all_known t [] = taken tt tt
if_all_known t (x ∷ xs) = cond (t.known x) (if_all_known t xs) (if_known t x)

-- the maps of one owner, and one of them by its number
abbrev pub owner_maps : Owner → Table → Maps
owner_maps (at.Span p) t = maps_at t.spans p
owner_maps (at.Chunk p) t = maps_at t.chunks p

abbrev pub owner_map : Owner → ℕ → Table → Option (Map Text Value)
owner_map o which t = entry_at (owner_maps o t) which

-- what is seen of the span, and of the chunk, that stands at a row of an edition's tables
module _ {H O M : Type 0} (v : View H O) (table : M → Table) where
  abbrev pub sight_at : Texts → SpanAt O M → Sight
  sight_at t s = sight v t s.fields.now (table s.maps.now).spans s.row

  abbrev pub chunk_sight_at : Texts → ChunkAt H M → ChunkSight
  chunk_sight_at t c = chunk_sight v t c.head.now (table c.maps.now).chunks c.row
