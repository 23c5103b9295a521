-- The refusals of a stock, each by its number, its layer and its place.
use Rattle.texts.specs.declared.refusal.Layer.TheVariants.{Stock}
use Rattle.texts.specs.declared.refusal.Refusal.{Refusal}
use Rattle.texts.specs.declared.stock.StockFault.{StockFault}
use Rattle.texts.specs.declared.stock.StockFault.TheVariants.{Unknown, NoSpace, TooLong}

-- 6: the text is unknown, and is the place; 10: there is no space, or the text is too long
abbrev pub stock_refusal : StockFault → Refusal
stock_refusal (Unknown t) = record { number = 6; layer = Stock; place = t.number }
stock_refusal NoSpace = record { number = 10; layer = Stock; place = 0 }
stock_refusal TooLong = record { number = 10; layer = Stock; place = 0 }
