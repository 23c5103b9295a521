-- What a v04 span shows.
use Rattle.std.specs.Prelude.{ℕ, Bool, false, [], ◌∷◌, ℤ, pos, negsuc, Some, None, Option, ◌==◌}
use Rattle.texts.specs.Stocks.{Texts}
use Rattle.span.specs.declared.value.Value.{Value}
use Rattle.span.specs.declared.value.Value.TheVariants as of
use Rattle.span.specs.Readings.{Face}
use Rattle.span.specs.Resources.{resource_shown}
use Rattle.span.specs.Sights.{tag_read, number_read, sampled_in, priority_in}
use Rattle.span.specs.Views.{Kind, View, Sight}
use Rattle.span.specs.Views.Kind.{of_span, of_chunk}
use Rattle.v04.specs.declared.own.Own.{Own}

-- texts go to the first map of a span, meta, and floats to the second, metrics; there is no map for another value, and a chunk has none
abbrev pub v04_home : Kind → Value → Option ℕ
v04_home of_chunk v = None
v04_home of_span (of.Text t) = Some 0
v04_home of_span (of.Float bits) = Some 1
v04_home of_span (of.Int n) = None
v04_home of_span (of.Bool b) = None
v04_home of_span (of.Bytes n) = None
v04_home of_span (of.KeyValue n) = None
v04_home of_span (of.List n) = None

abbrev pub v04_arity : Kind → ℕ
v04_arity of_span = 2
v04_arity of_chunk = 0

-- an error of exactly 1 is a failure
abbrev pub is_failure : ℤ → Bool
is_failure (pos n) = n == 1
is_failure (negsuc n) = false

-- tags are read in meta, and all numbers in metrics
abbrev pub v04_sees : Texts → Face Own → Sight
v04_sees t x = record {
  failed = is_failure x.fields.own.error;
  sampled = sampled_in (x.reads 1);
  priority = priority_in (x.reads 1);
  resource = resource_shown (t.bytes x.fields.own.resource) (t.bytes x.fields.own.name);
  tag = λ q. tag_read (x.reads 0 q);
  number = λ q. number_read (x.reads 1 q);
}

abbrev pub v04_view : View (Unit {0}) Own
v04_view = record {
  arity = v04_arity;
  home = v04_home;
  span_texts = λ f. f.service ∷ (f.own.name ∷ (f.own.resource ∷ (f.own.span_type ∷ [])));
  chunk_texts = λ h. [];
  sees = v04_sees;
  sees_chunk = λ t h r. record { priority = None; tag = λ q. None };
}
