-- The keys that have a meaning of their own, by their bytes.
use Rattle.std.specs.Prelude.{codes}
use Rattle.span.specs.declared.key.Key.{Key}
use Rattle.span.specs.declared.key.Key.TheVariants as key
use Rattle.span.specs.Model.{Bytes}

abbrev pub key_spelling : Key → Bytes
key_spelling key.TracerTopLevel = codes "_dd.top_level"
key_spelling key.Measured = codes "_dd.measured"
key_spelling key.PartialVersion = codes "_dd.partial_version"
key_spelling key.SpanSamplingMechanism = codes "_dd.span_sampling.mechanism"
key_spelling key.AnalyticsRate = codes "_dd1.sr.eausr"
key_spelling key.SamplingPriority = codes "_sampling_priority_v1"
key_spelling key.Env = codes "env"
key_spelling key.Version = codes "version"
key_spelling key.Component = codes "component"
key_spelling key.SpanKind = codes "span.kind"

-- the same, as what a reader of a map need not look into
unfoldable pub key_bytes : Key → Bytes
key_bytes k = key_spelling k
