-- What a v1 span and chunk show.
use Rattle.std.specs.Prelude.{cond, [], ◌∷◌, ℤ, pos, negsuc, Some, None, Option, int_lt}
use Rattle.std.specs.Option.{option_or, option_map}
use Rattle.std.specs.Str.{bytes_eq}
use Rattle.texts.specs.declared.stock.Text.{Text}
use Rattle.texts.specs.Stocks.{Texts}
use Rattle.span.specs.declared.key.Key.{Key}
use Rattle.span.specs.declared.key.Key.TheVariants as key
use Rattle.span.specs.declared.v1.SpanKind.{SpanKind}
use Rattle.span.specs.declared.v1.SpanKind.TheVariants.{Internal, Server, Client, Producer, Consumer}
use Rattle.span.specs.declared.tag.Priority.{Priority}
use Rattle.span.specs.declared.tag.Priority.TheVariants.{Positive, NotPositive}
use Rattle.span.specs.declared.tag.Tag.{Tag}
use Rattle.span.specs.declared.tag.Tag.TheVariants as shows
use Rattle.span.specs.Keys.{key_spelling}
use Rattle.span.specs.Model.{Bytes}
use Rattle.span.specs.Readings.{Face, Readings}
use Rattle.span.specs.Resources.{resource_shown}
use Rattle.span.specs.Sights.{tag_read, number_read, sampled_in}
use Rattle.span.specs.Views.{View, Sight, ChunkSight}
use Rattle.v1.specs.declared.chunk.Head.{Head}
use Rattle.v1.specs.declared.own.Own.{Own}

-- a field as a tag, unless it is empty
abbrev pub unless_empty : Bytes → Text → Option Tag
unless_empty [] x = None
unless_empty (b ∷ bs) x = Some (shows.Text x)

-- the kind as a tag, unless it is internal
abbrev pub kind_tag : SpanKind → Option Tag
kind_tag Internal = None
kind_tag Server = Some (shows.Kind Server)
kind_tag Client = Some (shows.Kind Client)
kind_tag Producer = Some (shows.Kind Producer)
kind_tag Consumer = Some (shows.Kind Consumer)

-- the tag that a field shows at its key
abbrev pub promoted : Texts → Own → Bytes → Option Tag
promoted t o q =
    cond (bytes_eq q (key_spelling key.Env)) (unless_empty (t.bytes o.env) o.env)
    (cond (bytes_eq q (key_spelling key.Version)) (unless_empty (t.bytes o.version) o.version)
    (cond (bytes_eq q (key_spelling key.Component)) (unless_empty (t.bytes o.component) o.component)
    (cond (bytes_eq q (key_spelling key.SpanKind)) (kind_tag o.span_kind) None)))

-- the key with these bytes, where a field shows at it
abbrev pub promoted_key : Bytes → Option Key
promoted_key q =
    cond (bytes_eq q (key_spelling key.Env)) (Some key.Env)
    (cond (bytes_eq q (key_spelling key.Version)) (Some key.Version)
    (cond (bytes_eq q (key_spelling key.Component)) (Some key.Component)
    (cond (bytes_eq q (key_spelling key.SpanKind)) (Some key.SpanKind) None)))

-- where a sampler let the trace go, the priority is the chunk's if that is below 0, else -1
abbrev pub if_negative : Option ℤ → ℤ
if_negative None = negsuc 0
if_negative (Some (pos n)) = negsuc 0
if_negative (Some (negsuc n)) = negsuc n

abbrev pub effective_priority : Head → Option ℤ
effective_priority h = cond h.dropped_trace (Some (if_negative h.priority)) h.priority

abbrev pub weighed_int : ℤ → Priority
weighed_int n = cond (int_lt (pos 0) n) Positive NotPositive

-- a text among the attributes is a tag before any field is
abbrev pub v1_sees : Texts → Face Own → Sight
v1_sees t x = record {
  failed = x.fields.own.error;
  sampled = sampled_in (x.reads 0);
  priority = None;
  resource = resource_shown (t.bytes x.fields.own.resource) (t.bytes x.fields.own.name);
  tag = λ q. option_or (tag_read (x.reads 0 q)) (promoted t x.fields.own q);
  number = λ q. number_read (x.reads 0 q);
}

abbrev pub v1_sees_chunk : Texts → Head → Readings → ChunkSight
v1_sees_chunk t h r = record { priority = option_map weighed_int (effective_priority h); tag = λ q. tag_read (r 0 q) }

-- a span and a chunk have one map each, for every value
abbrev pub v1_view : View Head Own
v1_view = record {
  arity = λ kind. 1;
  home = λ kind v. Some 0;
  span_texts = λ f. f.service ∷ (f.own.name ∷ (f.own.resource ∷ (f.own.span_type ∷ (f.own.env ∷ (f.own.version ∷ (f.own.component ∷ []))))));
  chunk_texts = λ h. h.origin ∷ [];
  sees = v1_sees;
  sees_chunk = v1_sees_chunk;
}
