-- The kinds of a span, by number and by word.
use Rattle.std.specs.Prelude.{ℕ, cond, List, codes, ◌==◌}
use Rattle.span.specs.declared.v1.SpanKind.{SpanKind}
use Rattle.span.specs.declared.v1.SpanKind.TheVariants.{Internal, Server, Client, Producer, Consumer}

-- 2 to 5 are server, client, producer and consumer; every other number counts as internal
abbrev pub kind_of : ℕ → SpanKind
kind_of n = cond (n == 2) Server (cond (n == 3) Client (cond (n == 4) Producer (cond (n == 5) Consumer Internal)))

abbrev pub kind_word : SpanKind → List ℕ
kind_word Internal = codes "internal"
kind_word Server = codes "server"
kind_word Client = codes "client"
kind_word Producer = codes "producer"
kind_word Consumer = codes "consumer"
