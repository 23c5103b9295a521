-- A mark is seen at its own key alone.
use Rattle.std.specs.Prelude.{◌≡◌, false, is_some, refl}
use Rattle.std.proofs.Common.{ap, ◌∙◌}
use Rattle.std.specs.Option.{option_or}
use Rattle.std.specs.Str.{bytes_eq}
use Rattle.texts.specs.declared.stock.WellKnown.TheVariants.{TopLevel}
use Rattle.texts.specs.Stocks.{Texts, spelling}
use Rattle.span.specs.declared.key.Key.TheVariants as key
use Rattle.span.specs.Keys.{key_bytes}
use Rattle.span.specs.Model.{Bytes}
use Rattle.span.specs.Readings.{Face}
use Rattle.span.specs.Sights.{tag_read, number_read, sampled_by}
use Rattle.span.specs.Views.{OffMark, MarkUnseen}
use Rattle.v1.specs.declared.own.Own.{Own}
use Rattle.v1.specs.Shown.{promoted, v1_view}

-- the two keys that sampling reads are others than a mark's
mechanism_apart : bytes_eq (spelling TopLevel) (key_bytes key.SpanSamplingMechanism) ≡ false
unfolding key_bytes
mechanism_apart = refl

rate_apart : bytes_eq (spelling TopLevel) (key_bytes key.AnalyticsRate) ≡ false
unfolding key_bytes
rate_apart = refl

-- two faces that differ at most in a mark
module _ (t : Texts) (x y : Face Own) (off : OffMark v1_view x y) where
  read_alike : (q : Bytes) → bytes_eq (spelling TopLevel) q ≡ false → y.reads 0 q ≡ x.reads 0 q
  read_alike q apart = off.reads 0 q (λ home. apart)

  pub failed_alike : (v1_view.sees t y).failed ≡ (v1_view.sees t x).failed
  failed_alike = ap (λ f. f.own.error) off.fields

  pub sampled_alike : (v1_view.sees t y).sampled ≡ (v1_view.sees t x).sampled
  sampled_alike =
      ap (λ v. sampled_by (number_read v) (is_some (y.reads 0 (key_bytes key.AnalyticsRate)))) (read_alike (key_bytes key.SpanSamplingMechanism) mechanism_apart)
      ∙ ap (λ v. sampled_by (number_read (x.reads 0 (key_bytes key.SpanSamplingMechanism))) (is_some v)) (read_alike (key_bytes key.AnalyticsRate) rate_apart)

  pub resource_alike : (v1_view.sees t y).resource ≡ (v1_view.sees t x).resource
  resource_alike = ap (λ f. (v1_view.sees t (record { fields = f; reads = x.reads })).resource) off.fields

  pub tag_alike : (q : Bytes) → bytes_eq (spelling TopLevel) q ≡ false → (v1_view.sees t y).tag q ≡ (v1_view.sees t x).tag q
  tag_alike q apart =
      ap (λ f. option_or (tag_read (y.reads 0 q)) (promoted t f.own q)) off.fields
      ∙ ap (λ v. option_or (tag_read v) (promoted t x.fields.own q)) (read_alike q apart)

  pub number_alike : (q : Bytes) → bytes_eq (spelling TopLevel) q ≡ false → (v1_view.sees t y).number q ≡ (v1_view.sees t x).number q
  number_alike q apart = ap number_read (read_alike q apart)

pub mark_unseen : (t : Texts) → MarkUnseen t v1_view
mark_unseen t = record {
  failed = failed_alike t;
  sampled = sampled_alike t;
  priority = λ x y off. refl;
  resource = resource_alike t;
  tag = tag_alike t;
  number = number_alike t;
}
