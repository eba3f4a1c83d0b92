-- What a program over a recording leaves. Laws: `PrintedLaws`.
pub mod PrintedLaws
