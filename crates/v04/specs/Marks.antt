-- A mark is seen at its own key alone.
use Rattle.std.specs.Prelude.{◌≡◌, ℕ, false, is_some, refl}
use Rattle.std.proofs.Common.{ap, ◌∙◌, arith}
use Rattle.std.specs.Str.{bytes_eq}
use Rattle.texts.specs.declared.stock.WellKnown.TheVariants.{TopLevel}
use Rattle.texts.specs.Stocks.{Texts, spelling}
use Rattle.span.specs.declared.key.Key.TheVariants as key
use Rattle.span.specs.Keys.{key_bytes}
use Rattle.span.specs.Model.{Bytes}
use Rattle.span.specs.Readings.{Face}
use Rattle.span.specs.Sights.{tag_read, number_read, weighed, sampled_by}
use Rattle.span.specs.Views.{OffMark, MarkUnseen}
use Rattle.v04.specs.declared.own.Own.{Own}
use Rattle.v04.specs.Shown.{v04_view}

-- the keys that a v04 span is asked for are others than a mark's
pub mechanism_apart : bytes_eq (spelling TopLevel) (key_bytes key.SpanSamplingMechanism) ≡ false
unfolding key_bytes
mechanism_apart = refl

pub rate_apart : bytes_eq (spelling TopLevel) (key_bytes key.AnalyticsRate) ≡ false
unfolding key_bytes
rate_apart = refl

pub priority_apart : bytes_eq (spelling TopLevel) (key_bytes key.SamplingPriority) ≡ false
unfolding key_bytes
priority_apart = refl

-- two faces that differ at most in a mark
module _ (x y : Face Own) (off : OffMark v04_view x y) where
  -- meta is read alike, whatever the key, and metrics at any other key
  pub texts_alike : (q : Bytes) → y.reads 0 q ≡ x.reads 0 q
  texts_alike q = off.reads 0 q (λ home. let z : ◌≡◌ {A = ℕ} 0 1 = cc in absurd (omega arith))

  pub floats_alike : (q : Bytes) → bytes_eq (spelling TopLevel) q ≡ false → y.reads 1 q ≡ x.reads 1 q
  floats_alike q apart = off.reads 1 q (λ home. apart)

-- and they show the same, whatever the stock, but for what is read at a mark's key
module _ (t : Texts) (x y : Face Own) (off : OffMark v04_view x y) where
  pub failed_alike : (v04_view.sees t y).failed ≡ (v04_view.sees t x).failed
  failed_alike = ap (λ f. (v04_view.sees t (record { fields = f; reads = x.reads })).failed) off.fields

  pub sampled_alike : (v04_view.sees t y).sampled ≡ (v04_view.sees t x).sampled
  sampled_alike =
      ap (λ v. sampled_by (number_read v) (is_some (y.reads 1 (key_bytes key.AnalyticsRate)))) (floats_alike x y off (key_bytes key.SpanSamplingMechanism) mechanism_apart)
      ∙ ap (λ v. sampled_by (number_read (x.reads 1 (key_bytes key.SpanSamplingMechanism))) (is_some v)) (floats_alike x y off (key_bytes key.AnalyticsRate) rate_apart)

  pub priority_alike : (v04_view.sees t y).priority ≡ (v04_view.sees t x).priority
  priority_alike = ap (λ v. weighed (number_read v)) (floats_alike x y off (key_bytes key.SamplingPriority) priority_apart)

  pub resource_alike : (v04_view.sees t y).resource ≡ (v04_view.sees t x).resource
  resource_alike = ap (λ f. (v04_view.sees t (record { fields = f; reads = x.reads })).resource) off.fields

  pub tag_alike : (q : Bytes) → (v04_view.sees t y).tag q ≡ (v04_view.sees t x).tag q
  tag_alike q = ap tag_read (texts_alike x y off q)

  pub number_alike : (q : Bytes) → bytes_eq (spelling TopLevel) q ≡ false → (v04_view.sees t y).number q ≡ (v04_view.sees t x).number q
  number_alike q apart = ap number_read (floats_alike x y off q apart)

pub mark_unseen : (t : Texts) → MarkUnseen t v04_view
mark_unseen t = record {
  failed = failed_alike t;
  sampled = sampled_alike t;
  priority = priority_alike t;
  resource = resource_alike t;
  tag = λ x y off q apart. tag_alike t x y off q;
  number = number_alike t;
}
