mod AppLemmas
mod IdLemmas
mod LossLemmas
mod SoundLemmas
mod StreamLemmas
mod TableLemmas
